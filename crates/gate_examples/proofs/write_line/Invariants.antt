-- `gate_examples::write_line` meets its contract: the parts so far are written where each was taken. Assumes nothing.
use Rattle.std.proofs.Common.{◌≡◌, true, take}
use Rattle.std.specs.Prelude.{flat_map}
use Rattle.std.specs.Io.KnownBytes.{Appends}
use Rattle.gate_examples.proofs.write_line.Given as goal

abbrev pub invariant-loop-part : goal.invariant-loop-part
invariant-loop-part g l =
    l.taken ≡ true → Appends (g.W.Write.contents l.initial.to) (g.W.Write.contents l.to) (flat_map (λ part. part.now) (take l.part-index l.parts))
