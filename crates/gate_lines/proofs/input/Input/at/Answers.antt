-- `gate_lines::input::Input::at` meets its contract: as many bytes are held as there is room for. Assumes nothing.
use mathlib.Core.Path.{refl}
use Rattle.append.specs.Append.{added}
use Rattle.append.proofs.AppendLaws.{added_inside}
use Rattle.gate_lines.proofs.input.Input.at.Goals as goal

pub invariant_of-result : goal.invariant_of-result
invariant_of-result c = rw c.add.ensures (added_inside _ _ _)

pub returns : goal.returns
unfolding added
returns c = rw (c.add.ensures, c.new-line.ensures) refl
