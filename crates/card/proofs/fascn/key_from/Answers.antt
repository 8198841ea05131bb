-- `card::fascn::key_from` meets its contract: a turn adds a decimal digit. Assumes nothing.
use mathlib.Core.Path.{◌≡◌, refl, ap, ◌∙◌}
use Prim.Native.Nat.{ℕ, ◌+◌, ◌*◌, ◌^◌, ◌≤◌, ◌<◌}
use native.Mathlib.Numerals.{add-one}
use native.Mathlib.Omega.{arith}
use lib.Dec.{lit<}
use lib.ListN.{get_or}
use Rattle.common.specs.Lists.{number}
use Rattle.card.specs.Fascn.{key_of}
use Rattle.common.proofs.NumberLaws.{number_more}
use native.Mathlib.Nat.{pow-succ', pow-le-pow_right}
use Rattle.card.proofs.fascn.key_from.Goals as goal

ten : (k : ℕ) → 10 ^ (k + 1) ≡ 10 * 10 ^ k
ten k = rw add-one (pow-succ' 10 k)

small : (k : ℕ) → k < 16 → 10 ^ k ≤ 10 ^ 15
small k h = pow-le-pow_right {n = 10} (lit< tt) {i = k} {j = 15} (omega arith)

pub overflow_mul-n : goal.overflow_mul-n
unfolding number
overflow_mul-n c = omega (arith, small c.loop-digit.digit-index (omega arith))

pub overflow_add-n : goal.overflow_add-n
unfolding number
overflow_add-n c = omega (arith, small c.loop-digit.digit-index (omega arith))

pub loop-digit-init : goal.loop-digit-init
unfolding number
loop-digit-init c = (refl, omega arith)

pub loop-digit-preserved : goal.loop-digit-preserved
unfolding number
loop-digit-preserved c = (
  ap (λ (x : ℕ). c.loop-digit.n * 10 + x) c.from.ensures ∙ number_more 10 (λ j. get_or c.args.d.now j 0) c.loop-digit.digit-index c.loop-digit.invariant.0,
  omega (arith, ten c.loop-digit.digit-index),
)

pub returns : goal.returns
unfolding key_of
returns c = let e : c.loop-digit.digit-index ≡ 16 = omega arith in rw e at c.loop-digit.invariant.0
