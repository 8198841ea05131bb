-- `gate_lines::line::date_in` meets its contract: a turn adds a decimal digit. Assumes nothing.
use mathlib.Core.Path.{ap, ◌∙◌}
use Prim.Native.Nat.{ℕ, ◌+◌, ◌*◌, ◌%◌}
use native.Mathlib.Omega.{arith}
use borrow.Author.Rules.{rules}
use lib.ListN.{drop}
use lib.Seq.{get_or-take}
use Rattle.common.specs.Lists.{number}
use Rattle.common.specs.Decimal.{spelled}
use Rattle.common.proofs.DecimalLaws.{spelled_more, spelled_room}
use Rattle.gate_lines.proofs.line.date_in.Goals as goal

-- while digits are left to read, n is small
pub overflow_mul-n : goal.overflow_mul-n
overflow_mul-n c = omega (arith, spelled_room (drop 8 c.args.s.now) c.loop-x.x-index 7 (omega arith) c.loop-x.invariant.1)

pub overflow_add-n : goal.overflow_add-n
overflow_add-n c = omega (arith, spelled_room (drop 8 c.args.s.now) c.loop-x.x-index 7 (omega arith) c.loop-x.invariant.1)

pub loop-x-init : goal.loop-x-init
unfolding spelled number
loop-x-init c = search rules

pub loop-x-preserved : goal.loop-x-preserved
loop-x-preserved c =
    (search rules, ap (λ (x : ℕ). c.loop-x.n * 10 + x % 16) (get_or-take 8 (drop 8 c.args.s.now) c.loop-x.x-index 0 (omega arith)) ∙ spelled_more (drop 8 c.args.s.now) c.loop-x.x-index c.loop-x.invariant.1)
