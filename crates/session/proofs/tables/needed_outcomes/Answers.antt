-- `session::tables::needed_outcomes` meets its contract: a turn writes one outcome. Assumes nothing.
use mathlib.Core.Path.{refl, ◌∙◌}
use borrow.Author.Rules.{rules}
use Rattle.common.proofs.LoopLaws.{writing_none, writing_front, writing_whole}
use Rattle.session.specs.Tables.{needed_outcomes}
use Rattle.session.proofs.tables.needed_outcomes.Goals as goal

pub loop-i-init : goal.loop-i-init
loop-i-init c = writing_none (search rules)

pub loop-i-preserved : goal.loop-i-preserved
loop-i-preserved c = writing_front c.loop-i.invariant (search rules) (c.number.ensures ∙ c.needed_at.ensures)

pub returns : goal.returns
unfolding needed_outcomes
returns c = writing_whole c.loop-i.invariant (search rules) refl
