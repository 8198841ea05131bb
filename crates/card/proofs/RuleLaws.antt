-- The five bits of a character: what `character_of` works out from a value follows document 01's rule, for each of the
-- 16 values, and reads back (document 02, request 3).
-- Assumes nothing.
use mathlib.Core.Path.{◌≡◌, ◌∙◌}
use mathlib.Core.Bool.{Bool, true, false, cond}
use Prim.Native.Nat.{ℕ, zero, suc, ◌+◌, ◌-◌, ◌*◌, ◌/◌, ◌%◌, ◌^◌, ◌<◌}
use native.Mathlib.Nat.{div-one, mod-eq_of_lt}
use native.Mathlib.Omega.{arith}
use borrow.Author.Tests.{eq-eqb}
use lib.Dec.{eqb, ltb, lit<}
use Rattle.common.specs.Lists.{number}
use Rattle.card.specs.Fascn.{char_bit, four_bits, ones, ByRule}
use Rattle.card.specs.FascnCode.{odd_char, value_char, char_of, bit_in}
use Rattle.common.proofs.NumberLaws.{number_digit, number-mod}

-- ---- five bits as one number, the bit sent first highest

module _ (bit : ℕ → ℕ) (binary : (j : ℕ) → j < 5 → bit j < 2) where
  bit_read : (j : ℕ) → j < 5 → number 2 5 bit / 2 ^ (5 - suc j) % 2 ≡ bit j
  bit_read = number_digit 2 5 bit binary

  last_read : number 2 5 bit % 2 ≡ bit 4
  last_read = rw div-one at (bit_read 4 (lit< tt))

  -- its value and its parity are those of the bits
  pub value_read : value_char (number 2 5 bit) ≡ four_bits bit
  value_read = rw (bit_read 0 (lit< tt), bit_read 1 (lit< tt), bit_read 2 (lit< tt), bit_read 3 (lit< tt))

  pub odd_read : odd_char (number 2 5 bit) ≡ eqb (ones bit % 2) 1
  odd_read = rw (bit_read 0 (lit< tt), bit_read 1 (lit< tt), bit_read 2 (lit< tt), bit_read 3 (lit< tt), last_read)

-- ---- the bits of a value

pub char_bit_lt : (x j : ℕ) → char_bit x j < 2
unfolding char_bit
char_bit_lt x j = go (ltb j 4) _ _
  where
    go : (b : Bool) (y z : ℕ) → cond b (y % 2) (z % 2) < 2
    go true y z = omega arith
    go false y z = omega arith

-- they follow the rule
pub rule_kept : (x : ℕ) → x < 16 → ByRule x (char_bit x)
unfolding char_bit number
rule_kept x h =
    record { binary = λ j l. char_bit_lt x j; value = sum _ _ _ _ (number-mod 2 4 x (lit< tt) ∙ mod-eq_of_lt h); odd = rw div-one (odd (x % 2) _ _ _) }
  where
    sum : (a b c d : ℕ) {y : ℕ} → (((0 * 2 + d) * 2 + c) * 2 + b) * 2 + a ≡ y → a + 2 * b + 4 * c + 8 * d ≡ y
    sum a b c d e = omega arith

    odd : (a b c d : ℕ) → (a + b + c + d + (1 + a + b + c + d) % 2) % 2 ≡ 1
    odd a b c d = omega arith

-- and no other five bits do
pub rule_only : (x : ℕ) (bit : ℕ → ℕ) → ByRule x bit → (j : ℕ) → j < 5 → char_bit x j ≡ bit j
unfolding char_bit number
rule_only x bit r = at
  where
    low : (j : ℕ) → j < 4 → x / 2 ^ (4 - suc j) % 2 ≡ bit (3 - j)
    low j h =
        let e : x ≡ number 2 4 (λ t. bit (3 - t)) = omega (arith, r.value) in
        rw e (number_digit 2 4 (λ t. bit (3 - t)) (λ t l. r.binary (3 - t) (omega arith)) j h)

    first : x % 2 ≡ bit 0
    first = rw div-one at (low 3 (lit< tt))

    at : (j : ℕ) → j < 5 → char_bit x j ≡ bit j
    at zero h = low 3 (lit< tt)
    at (suc zero) h = low 2 (lit< tt)
    at (suc (suc zero)) h = low 1 (lit< tt)
    at (suc (suc (suc zero))) h = low 0 (lit< tt)
    at (suc (suc (suc (suc zero)))) h = rw (first, low 2 (lit< tt), low 1 (lit< tt), low 0 (lit< tt)) (omega (arith, r.odd, r.binary 4 (lit< tt)))
    at (suc (suc (suc (suc (suc j))))) h = absurd (omega arith)

-- five bits that are the same ones follow it too
pub rule_same : {x : ℕ} {bit other : ℕ → ℕ} → ((j : ℕ) → j < 5 → other j ≡ bit j) → ByRule x bit → ByRule x other
rule_same e r = record {
  binary = λ j h. rw (e j h) (r.binary j h);
  value = rw (e 0 (lit< tt), e 1 (lit< tt), e 2 (lit< tt), e 3 (lit< tt)) r.value;
  odd = rw (e 0 (lit< tt), e 1 (lit< tt), e 2 (lit< tt), e 3 (lit< tt), e 4 (lit< tt)) r.odd;
}

-- ---- the character that the code works out

-- bit j of it is bit j of the value's
pub code_bit : (x j : ℕ) → j < 5 → bit_in (char_of x) j ≡ char_bit x j
unfolding char_of
code_bit x j h = bit_read (char_bit x) (λ j l. char_bit_lt x j) j h

-- for each of the 16 values its five bits are those of the rule, and read back they have that value and odd parity
pub code_by_rule : (x : ℕ) → x < 16 → ByRule x (bit_in (char_of x)) × (value_char (char_of x) ≡ x) × (odd_char (char_of x) ≡ true)
unfolding char_of
code_by_rule x h =
    let bits : (j : ℕ) → j < 5 → char_bit x j < 2 = λ j l. char_bit_lt x j in
    let r : ByRule x (char_bit x) = rule_kept x h in
    (rule_same (code_bit x) r, value_read (char_bit x) bits ∙ r.value, odd_read (char_bit x) bits ∙ eq-eqb _ 1 r.odd)
