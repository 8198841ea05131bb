-- One bit turned (document 02, request 3): which bit that is, and that 25 bytes of odd parity with one bit turned are
-- refused by 16.
-- Assumes nothing.
use mathlib.Core.Path.{◌≡◌, refl, ap, ◌∙◌}
use mathlib.Core.Bool.{Bool, true, false, cond}
use mathlib.Core.List.{List}
use Prim.Native.Nat.{ℕ, zero, suc, ◌+◌, ◌-◌, ◌*◌, ◌/◌, ◌%◌, ◌^◌, ◌<◌}
use native.Mathlib.Omega.{arith}
use borrow.Author.Tests.{eqb-true, eqb-false, eq-eqb, ne_eqb}
use lib.Bits.{bit_xor, xor_shr, xor_mod, xor_lt}
use lib.Dec.{eqb}
use lib.Pow.{pow-lt}
use lib.ListN.{length, get_or, replicate, length-set}
use lib.Seq.{get_or-set_same, get_or-set_other}
use Rattle.common.specs.Lists.{all}
use Rattle.card.specs.Fascn.{bit_at, char_bit_at, odd_at, ones, bytes_of, turned, decimal_at, values_of, unpack_refusal, unpack_of, pack_refusal, pack_of, unpacked, packed}
use Rattle.std.specs.Prelude.{Result, Err}
use Rattle.common.specs.Refusal.{value_in}
use Rattle.card.specs.declared.fascn.UnpackError.{UnpackError}
use Rattle.card.specs.declared.fascn.UnpackError.TheVariants.{WrongParity}
use Rattle.card.specs.declared.fascn.AboveNine.{AboveNine}
use Rattle.common.proofs.ListsLaws.{all_at, all_fails}
use Rattle.common.proofs.TestLaws.{same_test}
use Rattle.card.proofs.CharacterLaws.{bit_at_lt, odd_by_rule, odd_bytes}
use Rattle.card.proofs.OrderLaws.{values_small}
use Rattle.card.proofs.FascnLaws.{length-bytes_of, unpack_case_lem, well_formed_lem}

-- ---- one byte

-- the bits of a power of 2: one of them is 1
powers : all 8 (λ k. all 8 (λ j. eqb (2 ^ k / 2 ^ j % 2) (cond (eqb j k) 1 0))) ≡ true
unfolding all
powers = refl

power_bit : (k j : ℕ) → k < 8 → j < 8 → 2 ^ k / 2 ^ j % 2 ≡ cond (eqb j k) 1 0
power_bit k j h l = eqb-true _ _ (all_at _ 8 (all_at _ 8 powers k h) j l)

-- bit k of a byte is turned, and no other
byte_turned : (x k j : ℕ) → k < 8 → j < 8 → bit_xor x (2 ^ k) / 2 ^ j % 2 ≡ cond (eqb j k) (1 - x / 2 ^ j % 2) (x / 2 ^ j % 2)
byte_turned x k j h l =
    ap (λ (y : ℕ). y % 2) (xor_shr x (2 ^ k) j) ∙ xor_mod (x / 2 ^ j) (2 ^ k / 2 ^ j) 1 ∙ rw (power_bit k j h l) (one (eqb j k) (x / 2 ^ j % 2) (omega arith))
  where
    one : (b : Bool) (y : ℕ) → y < 2 → bit_xor y (cond b 1 0) ≡ cond b (1 - y) y
    one true zero h = refl
    one true (suc zero) h = refl
    one true (suc (suc y)) h = absurd (omega arith)
    one false zero h = refl
    one false (suc zero) h = refl
    one false (suc (suc y)) h = absurd (omega arith)

-- ---- five bits

-- an odd sum with one of its bits turned is even
one_turned : (a rest : ℕ) → a < 2 → (rest + a) % 2 ≡ 1 → (rest + (1 - a)) % 2 ≡ 0
one_turned zero rest h o = omega arith
one_turned (suc zero) rest h o = omega arith
one_turned (suc (suc a)) rest h o = absurd (omega arith)

-- the same of five bits, bit t turned
turned_of_five : (t : ℕ) (f g : ℕ → ℕ) → t < 5 → ((j : ℕ) → f j < 2) → ((j : ℕ) → g j ≡ cond (eqb j t) (1 - f j) (f j)) → ones f % 2 ≡ 1 → ones g % 2 ≡ 0
turned_of_five zero f g h b e o = rw (e 0, e 1, e 2, e 3, e 4) (omega (arith, one_turned (f 0) (f 1 + f 2 + f 3 + f 4) (b 0) (omega (arith, o))))
turned_of_five (suc zero) f g h b e o = rw (e 0, e 1, e 2, e 3, e 4) (omega (arith, one_turned (f 1) (f 0 + f 2 + f 3 + f 4) (b 1) (omega (arith, o))))
turned_of_five (suc (suc zero)) f g h b e o = rw (e 0, e 1, e 2, e 3, e 4) (omega (arith, one_turned (f 2) (f 0 + f 1 + f 3 + f 4) (b 2) (omega (arith, o))))
turned_of_five (suc (suc (suc zero))) f g h b e o = rw (e 0, e 1, e 2, e 3, e 4) (omega (arith, one_turned (f 3) (f 0 + f 1 + f 2 + f 4) (b 3) (omega (arith, o))))
turned_of_five (suc (suc (suc (suc zero)))) f g h b e o = rw (e 0, e 1, e 2, e 3, e 4) (omega (arith, one_turned (f 4) (f 0 + f 1 + f 2 + f 3) (b 4) (omega (arith, o))))
turned_of_five (suc (suc (suc (suc (suc t))))) f g h b e o = absurd (omega arith)

-- ---- some bytes

module _ (s : List ℕ) (p : ℕ) where
  pub length-turned : length (turned s p) ≡ length s
  unfolding turned
  length-turned = length-set s (p / 8) _

  -- bit p is the other one, and every other bit stays
  pub turned_bit : p < 8 * length s → (q : ℕ) → bit_at (turned s p) q ≡ cond (eqb q p) (1 - bit_at s q) (bit_at s q)
  unfolding turned bit_at
  turned_bit h q = by (eqb (q / 8) (p / 8)) refl
    where
      by : (t : Bool) → eqb (q / 8) (p / 8) ≡ t → bit_at (turned s p) q ≡ cond (eqb q p) (1 - bit_at s q) (bit_at s q)
      by true e =
          let same : q / 8 ≡ p / 8 = eqb-true (q / 8) (p / 8) e in
          let bit : eqb (7 - q % 8) (7 - p % 8) ≡ eqb q p =
          same_test _ _ (λ t. eq-eqb q p (omega (arith, same, eqb-true (7 - q % 8) (7 - p % 8) t))) (λ t. eq-eqb (7 - q % 8) (7 - p % 8) (omega (arith, eqb-true q p t))) in
          rw (same, get_or-set_same s (p / 8) (bit_xor (get_or s (p / 8) 0) (2 ^ (7 - p % 8))) 0 (omega arith), ← bit) (byte_turned (get_or s (p / 8) 0) (7 - p % 8) (7 - q % 8) (omega arith) (omega arith))
      by false e =
          let other : eqb q p ≡ false = ne_eqb q p (λ t. eqb-false (q / 8) (p / 8) e (omega arith)) in
          rw (other, get_or-set_other s (p / 8) (q / 8) (bit_xor (get_or s (p / 8) 0) (2 ^ (7 - p % 8))) 0 (eqb-false (q / 8) (p / 8) e))

  -- the character in which it stands had an odd count of ones, and has an even one
  turned_even : p < 8 * length s → odd_at s (p / 5) ≡ true → odd_at (turned s p) (p / 5) ≡ false
  turned_even h o = by (odd_at (turned s p) (p / 5)) refl
    where
      place : (j : ℕ) → eqb (5 * (p / 5) + j) p ≡ eqb j (p % 5)
      place j =
          same_test _ _ (λ t. eq-eqb j (p % 5) (omega (arith, eqb-true (5 * (p / 5) + j) p t))) (λ t. eq-eqb (5 * (p / 5) + j) p (omega (arith, eqb-true j (p % 5) t)))

      bit : (j : ℕ) → char_bit_at (turned s p) (p / 5) j ≡ cond (eqb j (p % 5)) (1 - char_bit_at s (p / 5) j) (char_bit_at s (p / 5) j)
      bit j = rw (place j) at (turned_bit h (5 * (p / 5) + j))

      even : ones (char_bit_at (turned s p) (p / 5)) % 2 ≡ 0
      even = turned_of_five (p % 5) (char_bit_at s (p / 5)) (char_bit_at (turned s p) (p / 5)) (omega arith) (λ j. bit_at_lt s _) bit (odd_by_rule s (p / 5) o).odd

      by : (t : Bool) → odd_at (turned s p) (p / 5) ≡ t → t ≡ false
      by true e = absurd (omega (arith, even, (odd_by_rule (turned s p) (p / 5) e).odd))
      by false e = refl

  -- bytes are bytes again
  pub turned_byte : p < 8 * length s → ((k : ℕ) → get_or s k 0 < 256) → (k : ℕ) → get_or (turned s p) k 0 < 256
  unfolding turned
  turned_byte h b k = by (eqb k (p / 8)) refl
    where
      by : (t : Bool) → eqb k (p / 8) ≡ t → get_or (turned s p) k 0 < 256
      by true e =
          rw (eqb-true k (p / 8) e, get_or-set_same s (p / 8) (bit_xor (get_or s (p / 8) 0) (2 ^ (7 - p % 8))) 0 (omega arith))
          (xor_lt 8 (get_or s (p / 8) 0) (2 ^ (7 - p % 8)) (b (p / 8)) (pow-lt {i = 7 - p % 8} {j = 8} (omega arith)))
      by false e = rw (get_or-set_other s (p / 8) k (bit_xor (get_or s (p / 8) 0) (2 ^ (7 - p % 8))) 0 (eqb-false k (p / 8) e)) (b k)

-- ---- a FASC-N

-- 25 bytes of odd parity, whatever their values are
pub turned_refused : (s : List ℕ) (p : ℕ) → length s ≡ 25 → all 40 (odd_at s) ≡ true → p < 200 → unpack_of (turned s p) ≡ (16, replicate 32 0)
unfolding unpack_of unpack_refusal
turned_refused s p long odd h =
    let even : odd_at (turned s p) (p / 5) ≡ false = turned_even s p (omega arith) (all_at (odd_at s) 40 odd (p / 5) (omega arith)) in
    rw (eq-eqb _ 25 (length-turned s p ∙ long), all_fails (odd_at (turned s p)) 40 (p / 5) (omega arith) even)

-- a FASC-N that unpacks
pub accepted-turned : (s : List ℕ) (p : ℕ) → (unpack_of s).0 ≡ 0 → p < 200 → unpack_of (turned s p) ≡ (16, replicate 32 0)
accepted-turned s p a h = let w = well_formed_lem s a in turned_refused s p w.long w.odd h

-- a FASC-N packed from digits of at most 9
pub packed-turned : (d : List ℕ) (p : ℕ) → all 32 (decimal_at d) ≡ true → p < 200 → unpack_of (turned (pack_of d).1 p) ≡ (16, replicate 32 0)
unfolding pack_of pack_refusal
packed-turned d p small h = rw small (turned_refused (bytes_of (values_of d)) p (length-bytes_of (values_of d)) (odd_bytes (values_of d) (values_small d small)) h)

-- the same of what the code answers: r is what `pack` gives, and u what `unpack` gives for its bytes with one bit
-- turned
pub turned_answer : (d : List ℕ) (p : ℕ) → all 32 (decimal_at d) ≡ true → p < 200 → (r : Result (List ℕ) AboveNine) → packed r ≡ pack_of d
    → (u : Result (List ℕ) UnpackError) → unpacked u ≡ unpack_of (turned (value_in (replicate 25 0) r) p) → u ≡ Err WrongParity
turned_answer d p small h r e u f =
    let bytes : value_in (replicate 25 0) r ≡ (pack_of d).1 = ap (λ (x : ℕ × List ℕ). x.1) e in
    let refused : unpack_of (turned (value_in (replicate 25 0) r) p) ≡ (16, replicate 32 0) = rw bytes (packed-turned d p small h) in
    unpack_case_lem u WrongParity (ap (λ (x : ℕ × List ℕ). x.0) (f ∙ refused))
