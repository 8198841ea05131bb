-- `card::fascn::characters::values_in` meets its contract: a turn stores value i. Assumes nothing.
use mathlib.Core.Path.{refl}
use borrow.Author.Rules.{rules}
use Rattle.common.proofs.LoopLaws.{writing_none, writing_front, writing_whole}
use Rattle.card.proofs.fascn.characters.values_in.Goals as goal

pub loop-i-init : goal.loop-i-init
loop-i-init c = writing_none (search rules)

pub loop-i-preserved : goal.loop-i-preserved
loop-i-preserved c = writing_front c.loop-i.invariant (search rules) c.value.ensures

pub returns : goal.returns
returns c = writing_whole c.loop-i.invariant (search rules) refl
