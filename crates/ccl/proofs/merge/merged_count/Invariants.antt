-- `ccl::merge::merged_count` meets its contract: a turn counts a key, and what is left is left of both lists. Assumes nothing.
use mathlib.Core.Path.{◌≡◌}
use Prim.Native.Nat.{◌+◌}
use lib.ListN.{length}
use Rattle.ccl.specs.Merge.{merged}
use Rattle.ccl.proofs.merge.merged_count.Given as goal

abbrev pub invariant-loop-n : goal.invariant-loop-n
invariant-loop-n l = l.n + length (merged l.keys.a.now l.keys.b.now) ≡ length (merged l.a l.b)

abbrev pub decreases-loop-n : goal.decreases-loop-n
decreases-loop-n l = length (merged l.keys.a.now l.keys.b.now)
