-- `card::fascn::order::digit_characters` meets its contract: a turn stores character k. Assumes nothing.
use mathlib.Core.Path.{refl}
use borrow.Author.Rules.{rules}
use Rattle.common.proofs.LoopLaws.{writing_none, writing_front, writing_whole}
use Rattle.card.proofs.fascn.order.digit_characters.Goals as goal

pub loop-k-init : goal.loop-k-init
loop-k-init c = writing_none (search rules)

pub loop-k-preserved : goal.loop-k-preserved
loop-k-preserved c = writing_front c.loop-k.invariant (search rules) c.character_of.ensures

pub returns : goal.returns
returns c = writing_whole c.loop-k.invariant (search rules) refl
