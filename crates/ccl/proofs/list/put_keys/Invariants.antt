-- `ccl::list::put_keys` meets its contract: a turn stores the key of a line. Assumes nothing.
use Prim.Native.Nat.{◌/◌}
use lib.ListN.{length}
use Rattle.common.proofs.LoopLaws.{WrittenSoFar}
use Rattle.ccl.specs.ListText.{key_at}
use Rattle.ccl.proofs.list.put_keys.Given as goal

abbrev pub invariant-loop-i : goal.invariant-loop-i
invariant-loop-i l = WrittenSoFar l.initial.keys 0 (length l.text / 32) (key_at l.text) (length l.yielded) l.keys
