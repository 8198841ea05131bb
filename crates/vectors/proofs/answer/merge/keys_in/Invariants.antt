-- `vectors::answer::merge::keys_in` meets its contract: a turn stores key i. Assumes nothing.
use Prim.Native.Nat.{◌*◌}
use lib.ListN.{drop}
use Rattle.common.proofs.LoopLaws.{WrittenSoFar}
use Rattle.vectors.specs.MergeText.{key_in}
use Rattle.vectors.proofs.answer.merge.keys_in.Given as goal

abbrev pub invariant-loop-i : goal.invariant-loop-i
invariant-loop-i l = WrittenSoFar l.initial.key-items 0 32 (λ j. key_in (drop (8 * j) l.s)) l.i l.key-items
