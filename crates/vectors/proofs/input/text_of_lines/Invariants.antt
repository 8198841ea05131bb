-- `vectors::input::text_of_lines` meets its contract: a turn adds a line. Assumes nothing.
use mathlib.Core.Path.{◌≡◌}
use mathlib.Core.List.{[]}
use Prim.Native.Nat.{◌+◌, ◌-◌, ◌≤◌}
use lib.ListN.{length, take, drop}
use Rattle.common.specs.Bytes.{index_of}
use Rattle.vectors.specs.Input.{lines_text, rest_of}
use Rattle.vectors.specs.Out.{with_text}
use Rattle.vectors.proofs.input.text_of_lines.Given as goal

abbrev pub invariant-loop-end : goal.invariant-loop-end
invariant-loop-end l = (l.from ≤ length l.block) × (l.end ≤ length l.block) × (l.end ≡ l.from + index_of 0x0A (drop l.from l.block))
    × (rest_of [] (take l.from l.block) ≡ []) × (l.out ≡ with_text [] (lines_text [] (take l.from l.block)))

abbrev pub decreases-loop-end : goal.decreases-loop-end
decreases-loop-end l = length l.block - l.from
