-- `vectors::answer::fascn::add_digits` meets its contract: a turn adds a digit. Assumes nothing.
use lib.ListN.{get_or}
use Rattle.append.proofs.AppendLaws.{AddedSoFar}
use Rattle.vectors.specs.FascnText.{digit_text}
use Rattle.vectors.proofs.answer.fascn.add_digits.Given as goal

abbrev pub invariant-loop-k : goal.invariant-loop-k
invariant-loop-k l = AddedSoFar 1310720 l.initial.out 32 (λ j. digit_text j (get_or l.d j 0)) l.k l.out
