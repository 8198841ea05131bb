-- `text::hex::write` meets its contract: a turn stores digit i. Assumes nothing.
use borrow.Author.Rules.{rules}
use Rattle.common.proofs.LoopLaws.{writing_none, writing_front, writing_part}
use Rattle.text.proofs.hex.write.Goals as goal

pub loop-i-init : goal.loop-i-init
loop-i-init c = writing_none (search rules)

pub loop-i-preserved : goal.loop-i-preserved
loop-i-preserved c = writing_front c.loop-i.invariant (search rules) c.digit_at.ensures

pub returns : goal.returns
returns c = record { is = c.min-n.ensures; stores = writing_part c.args.out.now (search rules) c.loop-i.invariant c.loop-i-test.false }
