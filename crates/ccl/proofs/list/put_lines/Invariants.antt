-- `ccl::list::put_lines` meets its contract: a turn stores the line of key i. Assumes nothing.
use mathlib.Core.Path.{◌≡◌}
use Prim.Native.Nat.{◌≤◌}
use lib.ListN.{length, take}
use Rattle.common.specs.Lists.{over_front}
use Rattle.ccl.specs.ListText.{lines_of}
use Rattle.ccl.proofs.list.put_lines.Given as goal

abbrev pub invariant-loop-i : goal.invariant-loop-i
invariant-loop-i l = (l.i ≤ length l.keys) × (l.i-end ≡ length l.keys) × (l.out ≡ over_front (lines_of (take l.i l.keys)) l.initial.out)
