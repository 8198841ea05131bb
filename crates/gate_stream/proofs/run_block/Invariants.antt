-- `gate_stream::run_block` meets its contract: a turn uses a part of the block. Assumes nothing.
use Rattle.std.proofs.Common.{◌≡◌, ◌-◌, ◌≤◌, length, take}
use Rattle.gate_lines.specs.Input.{input_after, text_of_input}
use Rattle.gate_stream.proofs.run_block.Given as goal

abbrev pub invariant-loop-used : goal.invariant-loop-used
invariant-loop-used l = (l.used ≤ length l.block) × (l.gate ≡ input_after l.initial.gate (take l.used l.block)) × (l.out ≡ text_of_input l.initial.gate (take l.used l.block))

abbrev pub decreases-loop-used : goal.decreases-loop-used
decreases-loop-used l = length l.block - l.used
