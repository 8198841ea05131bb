-- Numbers as bytes, the highest first, and back, over the width; lists stored one after another, and a part of a part.
-- Assumes nothing.
use mathlib.Core.Path.{◌≡◌, refl, sym, ap, ap₂, ◌∙◌}
use mathlib.Core.List.{List, [], ◌∷◌, ◌++◌, append_assoc}
use Prim.Native.Nat.{ℕ, zero, suc, ◌+◌, ◌-◌, ◌*◌, ◌/◌, ◌%◌, ◌^◌, ◌≤◌, ◌<◌}
use native.Mathlib.Nat.{mod-eq_of_lt, div-one, add-zero, add_assoc, div-div-eq-div-mul}
use native.Mathlib.Omega.{arith}
use lib.Dec.{lit<}
use lib.Pow.{pow-add}
use lib.ListN.{length, get_or, take, drop, length-append}
use lib.Seq.{take_at, take-take, drop-drop, drop-append-add, get_or-take, get_or-drop, length-take-le}
use Rattle.common.specs.Lists.{list_of, number, over_places}
use Rattle.common.proofs.ListsLaws.{length-list_of, get_or_list_of, list_of_is, list_of_ext, list_of-append}
use Rattle.common.proofs.NumberLaws.{number_ext, number_append, number-mod, number_digit}
use Rattle.std.specs.Int.{w32, w64, to_be_bytes, from_be_bytes}
use Rattle.session.specs.Tables.{four_bytes}
use Rattle.session.specs.Promise.{Bytes}
use Rattle.host.specs.Image.{high_first, from_high}

-- ---- a number and its bytes

pub length_high : (n x : ℕ) → length (high_first n x) ≡ n
unfolding high_first
length_high n x = length-list_of n (λ i. x / 256 ^ (n - suc i) % 256)

-- a number below 256 ^ n is found again
pub high_again : (n x : ℕ) → x < 256 ^ n → from_high n (high_first n x) ≡ x
unfolding high_first from_high
high_again n x h = number_ext 256 n (λ i l. get_or_list_of n (λ i. x / 256 ^ (n - suc i) % 256) i l) ∙ number-mod 256 n x (lit< tt) ∙ mod-eq_of_lt h

-- so are n bytes
pub bytes_again : (n : ℕ) (l : List ℕ) → length l ≡ n → Bytes l → high_first n (from_high n l) ≡ l
unfolding high_first from_high
bytes_again n l e h = list_of_is n _ l e (λ i k. number_digit 256 n (λ i. get_or l i 0) (λ j m. h j) i k)

-- the first n of n + m bytes, and the last m
pub high_halves : (n m x : ℕ) → high_first n (x / 256 ^ m) ++ high_first m (x % 256 ^ m) ≡ high_first (n + m) x
unfolding high_first
high_halves n m x = sym (list_of-append n m (λ i. x / 256 ^ (n + m - suc i) % 256) ∙ ap₂ ◌++◌ (list_of_ext n higher) (list_of_ext m lower))
  where
    higher : (i : ℕ) → i < n → x / 256 ^ (n + m - suc i) % 256 ≡ x / 256 ^ m / 256 ^ (n - suc i) % 256
    higher i h = let e : n + m - suc i ≡ m + (n - suc i) = omega arith in rw (e, pow-add, div-div-eq-div-mul)

    lower : (j : ℕ) → j < m → x / 256 ^ (n + m - suc (n + j)) % 256 ≡ x % 256 ^ m / 256 ^ (m - suc j) % 256
    lower j h =
        let e : n + m - suc (n + j) ≡ m - suc j = omega arith in
        rw (e, ← number-mod 256 m x (lit< tt)) (sym (number_digit 256 m (λ i. x / 256 ^ (m - suc i) % 256) (λ i k. omega arith) j h))

-- and as numbers
pub from_halves : (n m at : ℕ) (l : List ℕ) → from_high n (take n (drop at l)) * 256 ^ m + from_high m (take m (drop (at + n) l)) ≡ from_high (n + m) (take (n + m) (drop at l))
unfolding from_high
from_halves n m at l = sym (number_append 256 n m (λ i. get_or (take (n + m) (drop at l)) i 0) ∙ ap₂ (λ (a b : ℕ). a * 256 ^ m + b) (number_ext 256 n higher) (number_ext 256 m lower))
  where
    higher : (i : ℕ) → i < n → get_or (take (n + m) (drop at l)) i 0 ≡ get_or (take n (drop at l)) i 0
    higher i h = get_or-take (n + m) (drop at l) i 0 (omega arith) ∙ sym (get_or-take n (drop at l) i 0 h)

    lower : (j : ℕ) → j < m → get_or (take (n + m) (drop at l)) (n + j) 0 ≡ get_or (take m (drop (at + n) l)) j 0
    lower j h =
        get_or-take (n + m) (drop at l) (n + j) 0 (omega arith) ∙ get_or-drop at l (n + j) 0 ∙ ap (λ (i : ℕ). get_or l i 0) (sym (add_assoc at n j))
        ∙ sym (get_or-take m (drop (at + n) l) j 0 h ∙ get_or-drop (at + n) l j 0)

-- four bytes as a sum
pub four_sum : (at : ℕ) (l : List ℕ)
    → get_or l (at + 3) 0 + get_or l (at + 2) 0 * 256 + get_or l (at + 1) 0 * 65536 + get_or l at 0 * 16777216 ≡ from_high 4 (take 4 (drop at l))
unfolding from_high number
four_sum at l =
    let g : (i : ℕ) → i < 4 → get_or (take 4 (drop at l)) i 0 ≡ get_or l (at + i) 0 = λ i k. get_or-take 4 (drop at l) i 0 k ∙ get_or-drop at l i 0 in
    rw (g 0 (lit< tt), g 1 (lit< tt), g 2 (lit< tt), g 3 (lit< tt), add-zero) (by (get_or l at 0) (get_or l (at + 1) 0) (get_or l (at + 2) 0) (get_or l (at + 3) 0))
  where
    by : (a b c d : ℕ) → d + c * 256 + b * 65536 + a * 16777216 ≡ (((0 * 256 + a) * 256 + b) * 256 + c) * 256 + d
    by a b c d = omega arith

-- four bytes as the stamp has them
pub four_high : (x : ℕ) → four_bytes x ≡ high_first 4 x
unfolding high_first list_of
four_high x = rw (div-one x)

-- ---- as the kit has them

pub be_four : (x : ℕ) → to_be_bytes w32 x ≡ high_first 4 x
unfolding high_first list_of
be_four x = rw (div-one x)

pub be_eight : (x : ℕ) → to_be_bytes w64 x ≡ high_first 8 x
unfolding high_first list_of
be_eight x = rw (div-one x)

pub from_four : (l : List ℕ) → from_be_bytes w32 l ≡ from_high 4 l
unfolding from_high number
from_four l = omega arith

pub from_eight : (l : List ℕ) → from_be_bytes w64 l ≡ from_high 8 l
unfolding from_high number
from_eight l = omega arith

-- ---- lists stored one after another

-- one stored right after another is stored with it
over_more : (l s t : List ℕ) (at : ℕ) → at ≤ length l → over_places (over_places l at s) (at + length s) t ≡ over_places l at (s ++ t)
unfolding over_places
over_more l s t at h =
    let p = take at l ++ s in
    let q = drop (at + length s) l in
    let k : length p ≡ at + length s = length-append (take at l) s ∙ ap (λ (n : ℕ). n + length s) (length-take-le at l h) in
    let g : take (at + length s) (p ++ q) ≡ p = take_at p q (at + length s) k in
    let j : drop (at + length s + length t) (p ++ q) ≡ drop (at + length s + length t) l =
    ap (λ (n : ℕ). drop (n + length t) (p ++ q)) (sym k) ∙ drop-append-add p q (length t) ∙ drop-drop (length t) (at + length s) l in
    rw (g, j, length-append s t, ← add_assoc at (length s) (length t)) (simp append_assoc)

pub over_on : (l s t : List ℕ) {at n : ℕ} {k m : List ℕ} → k ≡ over_places l at s → m ≡ over_places k n t → n ≡ at + length s → at ≤ length l → m ≡ over_places l at (s ++ t)
over_on l s t {at} e f p h = rw (f, e, p) (over_more l s t at h)

-- ---- a part of a part

in_front : (from n m : ℕ) (l : List ℕ) → from + n ≤ m → take n (drop from (take m l)) ≡ take n (drop from l)
in_front zero n m l h = take-take n m l (omega arith)
in_front (suc from) n zero l h = absurd (omega arith)
in_front (suc from) n (suc m) [] h = refl
in_front (suc from) n (suc m) (x ∷ l) h = in_front from n m l (omega arith)

pub part_in-part : (l : List ℕ) (at from n m : ℕ) → from + n ≤ m → take n (drop from (take m (drop at l))) ≡ take n (drop (at + from) l)
part_in-part l at from n m h = in_front from n m (drop at l) h ∙ ap (take n) (drop-drop from at l)
