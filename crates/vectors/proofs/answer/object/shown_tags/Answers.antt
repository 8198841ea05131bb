-- `vectors::answer::object::shown_tags` meets its contract: the tags of a kind's rows but the last. Assumes nothing.
use mathlib.Core.Path.{refl}
use mathlib.Core.Logic.{inl, inr}
use Rattle.card.specs.Object.{rows_of}
use Rattle.vectors.specs.ObjectText.{shown_tags}
use Rattle.vectors.proofs.answer.object.shown_tags.Goals as goal

pub returns-in-Signed-clause-is : goal.returns-in-Signed-clause-is
unfolding shown_tags rows_of
returns-in-Signed-clause-is c = rw c.in-Signed.is refl

pub returns-in-Unsigned-clause-is : goal.returns-in-Unsigned-clause-is
unfolding shown_tags rows_of
returns-in-Unsigned-clause-is c = rw c.in-Unsigned.is refl

pub returns-in-Fingers-clause-is : goal.returns-in-Fingers-clause-is
unfolding shown_tags rows_of
returns-in-Fingers-clause-is c = elim c.in-Fingers.is [ inl e ↦ rw e refl | inr e ↦ rw e refl ]
