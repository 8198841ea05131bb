-- `ccl::list::put_lines` meets its contract: a turn stores the line of key i. Assumes nothing.
use mathlib.Core.Path.{◌≡◌, refl, ◌∙◌}
use native.Mathlib.Omega.{arith}
use borrow.Author.Rules.{rules}
use lib.ListN.{length}
use lib.Seq.{take-length}
use Rattle.common.specs.Lists.{over_front}
use Rattle.ccl.specs.ListText.{lines_of}
use Rattle.ccl.proofs.LinesLaws.{line_over}
use Rattle.ccl.proofs.list.put_lines.Goals as goal
use Rattle.ccl.proofs.list.put_lines.Goals.{At-loop-i}

pub loop-i-init : goal.loop-i-init
unfolding lines_of over_front
loop-i-init c = (search rules, refl, refl)

pub loop-i-preserved : goal.loop-i-preserved
loop-i-preserved c = (
  search rules,
  c.loop-i.invariant.1,
  c.store.ensures ∙ line_over c.args.keys.now c.args.out.now c.loop-i.i (omega arith) (omega arith) c.loop-i.invariant.2 c.line_of.ensures,
)

pub returns : goal.returns
returns c =
    let e : c.loop-i.i ≡ length c.args.keys.now = omega arith in
    rw (e, take-length c.args.keys.now) at c.loop-i.invariant.2
