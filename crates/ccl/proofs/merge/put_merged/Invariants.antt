-- `ccl::merge::put_merged` meets its contract: a turn stores a key, and what is left is left of both lists. Assumes nothing.
use mathlib.Core.Path.{◌≡◌}
use lib.ListN.{length, get_or, drop}
use Rattle.common.proofs.LoopLaws.{WrittenSoFar}
use Rattle.ccl.specs.Merge.{merged}
use Rattle.ccl.proofs.merge.put_merged.Given as goal

abbrev pub invariant-loop-key : goal.invariant-loop-key
invariant-loop-key l = WrittenSoFar l.initial.out 0 (length (merged l.a l.b)) (λ t. get_or (merged l.a l.b) t 0) l.n l.out × (drop l.n (merged l.a l.b) ≡ merged l.keys.a.now l.keys.b.now)

abbrev pub decreases-loop-key : goal.decreases-loop-key
decreases-loop-key l = length (merged l.keys.a.now l.keys.b.now)
