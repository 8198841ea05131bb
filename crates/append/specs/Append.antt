-- Text in a buffer, one of fixed size or a lent one, texts one after another, and numbers as text.
-- Assumes nothing.
use Rattle.std.specs.Prelude.{◌≡◌, cond, List, [], ◌∷◌, ◌++◌, ℕ, zero, suc, ◌+◌, ◌-◌, ◌/◌, ◌%◌, ◌≤◌, ltb, length, take, replicate}
use Rattle.common.specs.Lists.{over_front}

-- ---- a buffer

-- The text s after the text that stands in a buffer of n bytes, as far as there is room. Where the whole is shorter than
-- n bytes, nothing was cut.
unfoldable pub added : ℕ → List ℕ → List ℕ → List ℕ
added n text s = take n (text ++ s)

-- Of the n places of a buffer b the first k are in use, and zeros stand in the others.
abbrev pub Blank : ℕ → ℕ → List ℕ → Type 0
Blank n k b = (k ≤ n) × (b ≡ take k b ++ replicate (n - length (take k b)) 0) × (length (take k b) ≡ k)

-- ---- a lent buffer

-- The text s after the first `at` bytes of the buffer l, as far as l has room: how many bytes stand there then, and the
-- whole buffer, every later byte of which is as it was. Where they are fewer than l has, nothing was cut.
unfoldable pub added_at : List ℕ → ℕ → List ℕ → ℕ × List ℕ
added_at l at s =
    let text = take (length l) (take at l ++ s) in
    (length text, over_front text l)

-- What a function does that writes a text: it is lent the buffer before, answers with the count, and leaves the buffer
-- after.
pub record Added (before : List ℕ) (at : ℕ) (after : List ℕ) (count : ℕ) (text : List ℕ) : Type 0 where
  pub is : (count, after) ≡ added_at before at text

-- ---- texts one after another

-- f 0, f 1, .., f (n - 1)
unfoldable pub texts_of : ℕ → (ℕ → List ℕ) → List ℕ
texts_of zero f = []
texts_of (suc n) f = texts_of n f ++ f n

-- ---- numbers

-- A number in decimal, without zeros in front: its last k digits where it has more.
unfoldable pub decimal_last : ℕ → ℕ → List ℕ
decimal_last zero n = []
decimal_last (suc k) n = cond (ltb n 10) ((48 + n) ∷ []) (decimal_last k (n / 10) ++ ((48 + n % 10) ∷ []))

-- A number below 10 ^ 20, as every number of 64 bits is.
unfoldable pub number_text : ℕ → List ℕ
number_text n = decimal_last 20 n
