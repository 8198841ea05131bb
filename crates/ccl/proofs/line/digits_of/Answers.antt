-- `ccl::line::digits_of` meets its contract: a turn stores the digit before those that are stored. Assumes nothing.
use mathlib.Core.Path.{◌≡◌, refl, sym, ◌∙◌}
use mathlib.Core.List.{List}
use mathlib.Core.Logic.{⊎_elim}
use Prim.Native.Nat.{ℕ, suc, ◌+◌, ◌-◌, ◌/◌, ◌%◌, ◌^◌, ◌≤◌, ◌<◌}
use native.Mathlib.Nat.{pow-suc, div-one, div-div-eq-div-mul, eq-or-lt_of_le}
use native.Mathlib.Omega.{arith}
use borrow.Author.Rules.{rules}
use lib.ListN.{length, get_or, set, length-set}
use lib.Seq.{get_or-set_same, get_or-set_other}
use Rattle.common.proofs.ListsLaws.{list_of_is}
use Rattle.common.specs.Decimal.{digit_of, digits_of}
use Rattle.ccl.proofs.line.digits_of.Goals as goal

pub loop-k-init : goal.loop-k-init
loop-k-init c = (search rules, sym (div-one _), refl, λ (i : ℕ) (h : 16 ≤ i) (l : i < 16). absurd (omega arith))

-- what is left of the key, without its last digit
shorter : (key rest k : ℕ) → 0 < k → k ≤ 16 → rest ≡ key / 10 ^ (16 - k) → rest / 10 ≡ key / 10 ^ (16 - (k - 1))
shorter key rest k p h e = let m : 16 - (k - 1) ≡ suc (16 - k) = omega arith in rw (m, pow-suc, e, div-div-eq-div-mul)

-- the digits from place k - 1 on
further : (d : List ℕ) (key rest k : ℕ) → 0 < k → k ≤ 16 → rest ≡ key / 10 ^ (16 - k) → length d ≡ 16 → ((i : ℕ) → k ≤ i → i < 16 → get_or d i 0 ≡ digit_of 16 key i)
    → (i : ℕ) → k - 1 ≤ i → i < 16 → get_or (set d (k - 1) (48 + rest % 10)) i 0 ≡ digit_of 16 key i
unfolding digit_of
further d key rest k p h e n f i a b =
    ⊎_elim
    (λ (q : k - 1 ≡ i). let m : 15 - i ≡ 16 - k = omega arith in rw (q, m, e) (get_or-set_same d i (48 + key / 10 ^ (16 - k) % 10) 0 (omega arith)))
    (λ (l : k - 1 < i). get_or-set_other d (k - 1) i (48 + rest % 10) 0 (λ (q : i ≡ k - 1). omega arith) ∙ f i (omega arith) b)
    (eq-or-lt_of_le a)

pub loop-k-preserved : goal.loop-k-preserved
loop-k-preserved c = (
  search rules,
  shorter c.args.key.0 c.loop-k.rest c.loop-k.k (omega arith) c.loop-k.invariant.0 c.loop-k.invariant.1,
  length-set c.loop-k.d (c.loop-k.k - 1) (48 + c.loop-k.rest % 10) ∙ c.loop-k.invariant.2,
  further c.loop-k.d c.args.key.0 c.loop-k.rest c.loop-k.k (omega arith) c.loop-k.invariant.0 c.loop-k.invariant.1 c.loop-k.invariant.2 c.loop-k.invariant.3,
)

pub returns : goal.returns
unfolding digits_of
returns c =
    sym (list_of_is 16 (digit_of 16 c.args.key.0) c.loop-k.d c.loop-k.invariant.2 (λ i b. sym (c.loop-k.invariant.3 i (omega arith) b)))
