-- `host::image::put_parts` meets its contract: a turn stores one part. Assumes nothing.
use Rattle.host.proofs.SaveLaws.{PartsSoFar}
use Rattle.host.proofs.image.put_parts.Given as goal

abbrev pub invariant-loop-i : goal.invariant-loop-i
invariant-loop-i l = PartsSoFar l.initial.out l.at l.fn.parts l.i l.out
