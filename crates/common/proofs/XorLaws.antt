-- The exclusive or, of numbers and of lists.
-- Assumes nothing.
use mathlib.Core.Path.{◌≡◌, refl, sym, ap, ap₂, ◌∙◌}
use mathlib.Core.List.{List, [], ◌∷◌, ◌++◌}
use Prim.Native.Nat.{ℕ, zero, suc, ◌+◌, ◌*◌, ◌/◌, ◌%◌, ◌^◌, ◌<◌}
use native.Mathlib.Nat.{mod-lt, le_step, le_refl}
use native.Mathlib.Numerals.{add-one}
use native.Mathlib.Omega.{arith}
use lib.Arith.{bin_ind}
use lib.Bits.{bit_xor, differ, xor_step, xor_shr, xor_mod, xor_comm, xor_zero_r, xor_lt}
use lib.Dec.{lit<}
use lib.Pow.{pow_pos}
use Rattle.common.specs.Lists.{list_of, xor_of}

digit_assoc : (x y z : ℕ) → x < 2 → y < 2 → z < 2 → differ (bit_xor x y) z ≡ differ x (bit_xor y z)
digit_assoc zero zero z p q r = refl
digit_assoc zero (suc zero) zero p q r = refl
digit_assoc zero (suc zero) (suc zero) p q r = refl
digit_assoc (suc zero) zero z p q r = refl
digit_assoc (suc zero) (suc zero) zero p q r = refl
digit_assoc (suc zero) (suc zero) (suc zero) p q r = refl
digit_assoc zero (suc zero) (suc (suc z)) p q r = absurd (omega arith)
digit_assoc zero (suc (suc y)) z p q r = absurd (omega arith)
digit_assoc (suc zero) (suc zero) (suc (suc z)) p q r = absurd (omega arith)
digit_assoc (suc zero) (suc (suc y)) z p q r = absurd (omega arith)
digit_assoc (suc (suc x)) y z p q r = absurd (omega arith)

pub xor_assoc : (a b c : ℕ) → bit_xor (bit_xor a b) c ≡ bit_xor a (bit_xor b c)
xor_assoc a =
    bin_ind (λ (n : ℕ). (b c : ℕ) → bit_xor (bit_xor n b) c ≡ bit_xor n (bit_xor b c)) (λ b c. refl)
    (λ n ih b c.
    rw (xor_step (bit_xor n b) c, xor_step n (bit_xor b c), xor_shr n b 1, xor_shr b c 1, xor_mod n b 1, xor_mod b c 1)
    (ap₂ (λ (x y : ℕ). x * 2 + y) (ih (b / 2) (c / 2)) (digit_assoc (n % 2) (b % 2) (c % 2) (mod-lt n (lit< tt)) (mod-lt b (lit< tt)) (mod-lt c (lit< tt)))))
    a

pub xor_left_comm : (a b c : ℕ) → bit_xor a (bit_xor b c) ≡ bit_xor b (bit_xor a c)
xor_left_comm a b c = sym (xor_assoc a b c) ∙ ap (λ (x : ℕ). bit_xor x c) (xor_comm a b) ∙ xor_assoc b a c

pub xor_of-append : (l m : List ℕ) → xor_of (l ++ m) ≡ bit_xor (xor_of l) (xor_of m)
unfolding xor_of
xor_of-append [] m = refl
xor_of-append (x ∷ l) m = rw (xor_of-append l m) (sym (xor_assoc x (xor_of l) (xor_of m)))

-- a loop that takes the exclusive or, from z on
pub xor_of_more : (z : ℕ) (f : ℕ → ℕ) (i : ℕ) {x : ℕ} → x ≡ bit_xor z (xor_of (list_of i f)) → bit_xor x (f i) ≡ bit_xor z (xor_of (list_of (i + 1) f))
unfolding list_of xor_of
xor_of_more z f i p = rw (p, add-one, xor_of-append (list_of i f) (f i ∷ []), xor_zero_r, xor_assoc)

pub xor_of_lt : (k : ℕ) (f : ℕ → ℕ) (n : ℕ) → ((i : ℕ) → i < n → f i < 2 ^ k) → xor_of (list_of n f) < 2 ^ k
unfolding list_of xor_of
xor_of_lt k f zero h = pow_pos k
xor_of_lt k f (suc n) h =
    rw (xor_of-append (list_of n f) (f n ∷ []), xor_zero_r)
    (xor_lt k (xor_of (list_of n f)) (f n) (xor_of_lt k f n (λ i l. h i (le_step l))) (h n (le_refl (suc n))))
