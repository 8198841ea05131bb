-- `vectors::answer::calls::run_calls` meets its contract: a turn makes a call. Assumes nothing.
use lib.ListN.{length}
use Rattle.vectors.proofs.CallsLaws.{host, CallsMade}
use Rattle.vectors.proofs.answer.calls.run_calls.Given as goal

abbrev pub invariant-loop-left : goal.invariant-loop-left
invariant-loop-left l = CallsMade l.initial.out (host l.initial.session l.initial.object) l.s l.out (host l.session l.object) l.left

abbrev pub decreases-loop-left : goal.decreases-loop-left
decreases-loop-left l = length l.left
