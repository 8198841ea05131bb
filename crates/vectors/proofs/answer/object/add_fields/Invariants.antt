-- `vectors::answer::object::add_fields` meets its contract: a turn adds a field. Assumes nothing.
use lib.ListN.{length, get_or}
use Rattle.append.proofs.AppendLaws.{AddedSoFar}
use Rattle.vectors.specs.ObjectText.{field_text}
use Rattle.vectors.proofs.answer.object.add_fields.Given as goal

abbrev pub invariant-loop-i : goal.invariant-loop-i
invariant-loop-i l = AddedSoFar 1310720 l.initial.out (length l.tags) (λ j. field_text l.kind l.parts j (get_or l.tags j 0)) l.i l.out
