-- Texts added one after another to a buffer of fixed size, also by a loop, and numbers in decimal.
-- Assumes nothing.
use mathlib.Core.Path.{◌≡◌, refl, sym, ap, ap₂, ◌∙◌}
use mathlib.Core.Bool.{Bool, true, false, cond}
use mathlib.Core.List.{List, [], ◌∷◌, ◌++◌, append-nil, append_assoc}
use Prim.Native.Nat.{ℕ, zero, suc, ◌+◌, ◌-◌, ◌*◌, ◌/◌, ◌%◌, ◌^◌, ◌≤◌, ◌<◌, min, zero-le, suc-le-suc}
use native.Mathlib.Nat.{le_of_eq, le_of_suc-le-suc, not-suc-le-zero, pow-suc, one-le-pow, pow-le-pow_right}
use native.Mathlib.Numerals.{add-one}
use native.Mathlib.Omega.{arith}
use borrow.Author.Tests.{lt-ltb, le-ltb, leb-true, leb-false}
use lib.Dec.{ltb, leb, lit≤}
use lib.ListN.{length, take, drop, length-append, length-take, length-drop}
use lib.Seq.{take_all, take_at, take-append-add, length-take-le}
use borrow.Rule.Slice.PartMut.{put_mid}
use Rattle.common.specs.Lists.{list_of, written}
use Rattle.common.proofs.ListsLaws.{length-list_of, list_of-append, take_most}
use Rattle.text.specs.Hex.{hex_digit_at, hex_of}
use Rattle.text.proofs.HexLaws.{length_hex}
use Rattle.common.proofs.TestLaws.{either}
use Rattle.append.specs.Append.{added, texts_of, decimal_last, number_text}

-- ---- one text after another

take_on : (n : ℕ) (x t : List ℕ) → take n (take n x ++ t) ≡ take n (x ++ t)
take_on zero x t = refl
take_on (suc n) [] t = refl
take_on (suc n) (a ∷ x) t = ap (λ (l : List ℕ). a ∷ l) (take_on n x t)

-- one text and then another are both as one text; the law of this crate
pub added_on : (n : ℕ) (x s t : List ℕ) → added n (added n x s) t ≡ added n x (s ++ t)
unfolding added
added_on n x s t = take_on n (x ++ s) t ∙ ap (λ (l : List ℕ). take n l) (append_assoc x s t)

-- the same of what two calls promise
pub after : (n : ℕ) (a s t : List ℕ) {b d : List ℕ} → b ≡ added n a s → d ≡ added n b t → d ≡ added n a (s ++ t)
after n a s t p q = q ∙ ap (λ (l : List ℕ). added n l t) p ∙ added_on n a s t

-- nothing more leaves a text of the buffer as it is, and so each text that was added
pub added_none : (n : ℕ) (x : List ℕ) → length x ≤ n → x ≡ added n x []
unfolding added
added_none n x h = sym (ap (λ (l : List ℕ). take n l) (append-nil x) ∙ take_all n x h)

pub added_nothing : (n : ℕ) (x s : List ℕ) → added n (added n x s) [] ≡ added n x s
added_nothing n x s = added_on n x s [] ∙ ap (λ (l : List ℕ). added n x l) (append-nil s)

pub stays : (n : ℕ) (a s : List ℕ) {b : List ℕ} → b ≡ added n a s → added n b [] ≡ b
stays n a s p = ap (λ (l : List ℕ). added n l []) p ∙ added_nothing n a s ∙ sym p

-- how long a text is then: no longer than the buffer
pub length_added : (n : ℕ) (x s : List ℕ) → length (added n x s) ≡ min n (length x + length s)
unfolding added
length_added n x s = length-take n (x ++ s) ∙ ap (λ (k : ℕ). min n k) (length-append x s)

pub added_inside : (n : ℕ) (x s : List ℕ) → length (added n x s) ≤ n
added_inside n x s = omega (arith, length_added n x s)

-- where there is room for all of it nothing is cut, and a text that does not fill the buffer was not cut
pub added_all : (n : ℕ) (x s : List ℕ) → length x + length s ≤ n → added n x s ≡ x ++ s
unfolding added
added_all n x s h = take_all n (x ++ s) (rw length-append h)

pub added_whole : (n : ℕ) (x s : List ℕ) → length (added n x s) < n → added n x s ≡ x ++ s
added_whole n x s h = added_all n x s (omega (arith, h, length_added n x s))

-- for a chain of texts: `#![tactic(auto, using(append::proofs::AppendLaws::texts))]`
pub ruleset texts = (added_on, append_assoc, append-nil)

-- ---- how it is written

-- as much of a text is stored as there is room for
pub stored : (n : ℕ) (x t s : List ℕ) (k : ℕ) → length x ≤ n → k ≡ min (length s) (n - length x) → t ≡ take k s → x ++ t ≡ added n x s
unfolding added
stored n x t s k h e f =
    let size : n ≡ length x + (n - length x) = omega (arith, h) in
    ap (λ (l : List ℕ). x ++ l) (f ∙ take_most k (n - length x) s e)
    ∙ sym (ap (λ (i : ℕ). take i (x ++ s)) size ∙ take-append-add x s (n - length x))

-- digits stored in the rest of the buffer d after its first i bytes, which the text x is
pub hex_stored : (n i k : ℕ) (d x s l : List ℕ) → length d ≡ n → i ≤ n → take i d ≡ x → k ≡ min (2 * length s) (length (take (length d - i) (drop i d)))
    → l ≡ written (take (length d - i) (drop i d)) 0 k (hex_digit_at s) → take (i + k) (put_mid i (length d - i) d l) ≡ added n x (hex_of s)
unfolding written hex_of
hex_stored n i k d x s l long h first e p =
    let f = hex_digit_at s in
    let rest = drop (length d - i) (drop i d) in
    let size : length x ≡ i = sym (ap length first) ∙ length-take-le i d (omega (arith, long, h)) in
    let part : take (length d - i) (drop i d) ≡ drop i d = take_all (length d - i) (drop i d) (le_of_eq (length-drop i d)) in
    let count : k ≡ min (length (hex_of s)) (n - length x) = rw (length_hex, size, ← long, ← length-drop i d) (rw part at e) in
    let most : 2 * length s ≡ k + (2 * length s - k) = omega (arith, count, length_hex s) in
    let digits : list_of k f ≡ take k (hex_of s) =
    sym (ap (λ (j : ℕ). take k (list_of j f)) most ∙ ap (λ (t : List ℕ). take k t) (list_of-append k (2 * length s - k) f) ∙ take_at (list_of k f) _ k (length-list_of k f)) in
    let new : take k (l ++ rest) ≡ list_of k f =
    ap (λ (t : List ℕ). take k (t ++ rest)) p ∙ ap (λ (t : List ℕ). take k t) (append_assoc (list_of k f) (drop (0 + k) (take (length d - i) (drop i d))) rest)
    ∙ take_at (list_of k f) _ k (length-list_of k f) in
    ap (λ (t : List ℕ). take (i + k) (t ++ (l ++ rest))) first
    ∙ ap (λ (j : ℕ). take (j + k) (x ++ (l ++ rest))) (sym size)
    ∙ take-append-add x (l ++ rest) k ∙ ap (λ (t : List ℕ). x ++ t) new
    ∙ stored n x (list_of k f) (hex_of s) k (omega (arith, size, h)) count digits

-- ---- a text a turn

-- of the n texts f, the first i are added to the text a of a buffer of size m, f 0 first; the text d stands there then,
-- which is no longer than the buffer once a text is added, or where a is not (`added_nothing`)
pub record AddedSoFar (m : ℕ) (a : List ℕ) (n : ℕ) (f : ℕ → List ℕ) (i : ℕ) (d : List ℕ) : Type 0 where
  pub most : i ≤ n
  pub is : added m d [] ≡ added m a (texts_of i f)
  pub fits : 0 < i → added m d [] ≡ d
  pub fits_before : added m a [] ≡ a → added m d [] ≡ d

-- none is added yet
pub adding_none : {m n : ℕ} {a : List ℕ} {f : ℕ → List ℕ} → AddedSoFar m a n f 0 a
unfolding texts_of
adding_none = record { most = omega arith; is = refl; fits = λ h. absurd (omega (arith, h)); fits_before = λ e. e }

-- one more
pub adding_more : {m n i : ℕ} {a d e : List ℕ} {f : ℕ → List ℕ} → AddedSoFar m a n f i d → i < n → e ≡ added m d (f i) → AddedSoFar m a n f (i + 1) e
unfolding texts_of
adding_more {m} {n} {i} {a} {d} {e} {f} p h q =
    let fits : added m e [] ≡ e = ap (λ (l : List ℕ). added m l []) q ∙ added_nothing m d (f i) ∙ sym q in
    let next : added m d (f i) ≡ added m a (texts_of i f ++ f i) =
    sym (added_on m d [] (f i)) ∙ ap (λ (l : List ℕ). added m l (f i)) p.is ∙ added_on m a (texts_of i f) (f i) in
    record { most = omega arith; is = rw add-one (fits ∙ q ∙ next); fits = λ g. fits; fits_before = λ g. fits }

-- all n are added
pub adding_end : {m n i : ℕ} {a d : List ℕ} {f : ℕ → List ℕ} → AddedSoFar m a n f i d → n ≤ i → added m d [] ≡ d → d ≡ added m a (texts_of n f)
adding_end {n = n} {i} p h g = let e : i ≡ n = omega (arith, p.most) in sym g ∙ rw e at p.is

-- ---- numbers

-- the digits by their count, as the kit's `io` says it: the ASCII code of a digit below 16; the last k digits of n in
-- base b; and that n takes k digits, at least `width` of them
abbrev pub hex_digit_ascii : ℕ → ℕ
hex_digit_ascii d = cond (ltb d 10) (48 + d) (87 + d)

abbrev pub last_digits : ℕ → ℕ → ℕ → List ℕ
last_digits b zero n = []
last_digits b (suc k) n = last_digits b k (n / b) ++ (hex_digit_ascii (n % b) ∷ [])

abbrev pub IsDigitCount : ℕ → ℕ → ℕ → ℕ → Type 0
IsDigitCount b width n k = (width ≤ k) × (n < b ^ k) × (width < k → b ^ (k - 1) ≤ n)

glyph_is : (d : ℕ) → d < 10 → hex_digit_ascii d ≡ 48 + d
glyph_is d h = rw (lt-ltb d 10 h)

-- the fewest digits are those that the definition takes, where it takes as many
pub decimal_is : (f k n : ℕ) → k ≤ f → IsDigitCount 10 1 n k → last_digits 10 k n ≡ decimal_last f n
unfolding decimal_last
decimal_is f zero n h e = absurd (not-suc-le-zero e.0)
decimal_is zero (suc k) n h e = absurd (not-suc-le-zero h)
decimal_is (suc f) (suc zero) n h e =
    let small : n < 10 = e.1 in
    let same : n % 10 ≡ n = omega (arith, small) in
    rw (lt-ltb n 10 small, same) (ap (λ (d : ℕ). d ∷ []) (glyph_is n small))
decimal_is (suc f) (suc (suc k)) n h e =
    let p = 10 ^ suc k in
    let top : n < p * 10 = rw (← pow-suc 10 (suc k)) e.1 in
    let low : p ≤ n = let z : suc (suc k) - 1 ≡ suc k = omega arith in rw (← z) (e.2 (suc-le-suc (suc-le-suc zero-le))) in
    let ten : 10 ≤ p = ten_pow k in
    let large : 10 ≤ n = omega (arith, ten, low) in
    rw (le-ltb n 10 large)
    (ap₂ (λ (l : List ℕ) (d : ℕ). l ++ (d ∷ []))
    (decimal_is f (suc k) (n / 10) (le_of_suc-le-suc h) (suc-le-suc zero-le, omega (arith, top), λ g. less k n low)) (glyph_is (n % 10) (omega arith)))
  where
    ten_pow : (k : ℕ) → 10 ≤ 10 ^ suc k
    ten_pow k = let e = pow-suc 10 k in let g = one-le-pow k 10 (lit≤ tt) in omega (arith, e, g)

    ap_le : (k : ℕ) {m : ℕ} → 10 ^ k ≤ m → 10 ^ (suc k - 1) ≤ m
    ap_le k {m} h = let e : suc k - 1 ≡ k = omega arith in rw e h

    less : (k n : ℕ) → 10 ^ suc k ≤ n → 10 ^ (suc k - 1) ≤ n / 10
    less k n h = let e = pow-suc 10 k in let g : 10 ^ k ≤ n / 10 = omega (arith, e, h) in ap_le k g

-- a number below 10 ^ suc k has at most that many digits
pub decimal_short : (f k n : ℕ) → n < 10 ^ suc k → length (decimal_last f n) ≤ suc k
unfolding decimal_last
decimal_short zero k n h = zero-le
decimal_short (suc f) zero n h = let small : n < 10 = h in rw (lt-ltb n 10 small) (lit≤ tt)
decimal_short (suc f) (suc k) n h =
    let p = pow-suc 10 (suc k) in
    let less : n / 10 < 10 ^ suc k = omega (arith, p, h) in
    either (λ (l : List ℕ). length l ≤ suc (suc k)) (ltb n 10) (suc-le-suc zero-le) (rw length-append (omega (arith, decimal_short f k (n / 10) less)))

-- a number of 64 bits has at most 20 digits
pub at_most_20 : (k n : ℕ) → n < 2 ^ 64 → IsDigitCount 10 1 n k → k ≤ 20
at_most_20 k n h e = by (leb k 20) refl
  where
    not_le : {m : ℕ} → 10 ^ 20 ≤ m → m ≤ n → ⊥
    not_le p l = omega (arith, p, l, h)

    by : (t : Bool) → leb k 20 ≡ t → k ≤ 20
    by true q = leb-true k 20 q
    by false q =
        let g = leb-false k 20 q in
        let j : 20 ≤ k - 1 = omega (arith, g) in
        let p : 10 ^ 20 ≤ 10 ^ (k - 1) = pow-le-pow_right {n = 10} (lit≤ tt) j in
        let l = e.2 (omega (arith, g)) in
        absurd (not_le p l)

-- more digits than a number has are not asked for
decimal_more : (k n : ℕ) → n < 10 ^ suc k → decimal_last (suc k) n ≡ decimal_last (suc (suc k)) n
unfolding decimal_last
decimal_more zero n h = let small : n < 10 = h in rw (lt-ltb n 10 small) refl
decimal_more (suc k) n h =
    let p = pow-suc 10 (suc k) in
    let less : n / 10 < 10 ^ suc k = omega (arith, p, h) in
    ap (λ (l : List ℕ). cond (ltb n 10) ((48 + n) ∷ []) (l ++ ((48 + n % 10) ∷ []))) (decimal_more k (n / 10) less)

-- a number of more than one digit: the digits of its tenth, and its last
last_of : (k n : ℕ) → 10 ≤ n → decimal_last (suc k) n ≡ decimal_last k (n / 10) ++ ((48 + n % 10) ∷ [])
unfolding decimal_last
last_of k n h = rw (le-ltb n 10 h) refl

-- the digits of a number of 64 bits: the one digit, or those of the tenth and the last
pub number_small : (n : ℕ) → n < 10 → number_text n ≡ (48 + n) ∷ []
unfolding number_text decimal_last
number_small n h = rw (lt-ltb n 10 h) refl

pub number_large : (n : ℕ) → 10 ≤ n → n < 2 ^ 64 → number_text n ≡ number_text (n / 10) ++ ((48 + n % 10) ∷ [])
unfolding number_text
number_large n h l =
    let less : n / 10 < 10 ^ 19 = omega (arith, h, l) in
    last_of 19 n h ∙ ap (λ (t : List ℕ). t ++ ((48 + n % 10) ∷ [])) (decimal_more 18 (n / 10) less)
