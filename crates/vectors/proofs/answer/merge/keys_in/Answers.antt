-- `vectors::answer::merge::keys_in` meets its contract: a turn stores key i. Assumes nothing.
use mathlib.Core.Path.{refl, ap, ◌∙◌}
use borrow.Author.Rules.{rules}
use Rattle.common.proofs.LoopLaws.{writing_none, writing_front, writing_whole}
use Rattle.vectors.specs.MergeText.{key_in, keys_in}
use Rattle.vectors.proofs.answer.merge.keys_in.Goals as goal

pub loop-i-preserved : goal.loop-i-preserved
loop-i-preserved c = writing_front c.loop-i.invariant (search rules) (c.key_in.ensures ∙ ap key_in c.after.ensures)

pub returns : goal.returns
unfolding keys_in
returns c = writing_whole c.loop-i.invariant (search rules) refl

pub loop-i-init : goal.loop-i-init
loop-i-init c = writing_none (search rules)
