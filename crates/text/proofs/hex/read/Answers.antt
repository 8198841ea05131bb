-- `text::hex::read` meets its contract: a turn stores byte i. Assumes nothing.
use mathlib.Core.Path.{sym, ap, ◌∙◌}
use Prim.Native.Nat.{◌≤◌}
use native.Mathlib.Omega.{arith}
use lib.ListN.{length}
use lib.Seq.{length-take-le}
use Rattle.common.proofs.ListsLaws.{length-written}
use Rattle.text.specs.Hex.{byte_at}
use borrow.Author.Rules.{rules}
use Rattle.common.proofs.LoopLaws.{writing_none, writing_front, writing_part}
use Rattle.text.proofs.hex.read.Goals as goal

pub loop-i-init : goal.loop-i-init
loop-i-init c = writing_none (search rules)

pub loop-i-preserved : goal.loop-i-preserved
loop-i-preserved c = writing_front c.loop-i.invariant (search rules) c.byte_at.ensures

pub returns : goal.returns
returns c =
    let fits : c.min-n.result ≤ length c.args.out.now = search rules in
    let stores = writing_part c.args.out.now fits c.loop-i.invariant c.loop-i-test.false in
    let same = ap length stores ∙ length-written c.args.out.now 0 c.min-n.result (byte_at c.args.s.now) (omega (arith, fits)) in
    record { is = c.min-n.ensures; stores = stores; counts = (omega (arith, same, fits), sym (length-take-le _ _ (omega (arith, same, fits)))) }
