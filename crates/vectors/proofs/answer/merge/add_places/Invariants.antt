-- `vectors::answer::merge::add_places` meets its contract: a turn adds a place. Assumes nothing.
use mathlib.Core.List.{◌∷◌}
use lib.ListN.{length, get_or}
use Rattle.append.specs.Append.{number_text}
use Rattle.append.proofs.AppendLaws.{AddedSoFar}
use Rattle.vectors.proofs.answer.merge.add_places.Given as goal

abbrev pub invariant-loop-place : goal.invariant-loop-place
invariant-loop-place l = AddedSoFar 1310720 l.initial.out (length l.places) (λ j. 0x20 ∷ number_text (get_or l.places j 0)) l.place-index l.out
