-- `card::fascn::characters::put_digits` meets its contract: a turn stores digit j. Assumes nothing.
use Prim.Native.Nat.{◌-◌, ◌*◌, ◌/◌, ◌%◌, ◌^◌}
use lib.ListN.{length}
use Rattle.common.proofs.LoopLaws.{WrittenSoFar}
use Rattle.card.proofs.fascn.characters.put_digits.Given as goal

abbrev pub invariant-loop-j : goal.invariant-loop-j
invariant-loop-j l =
    WrittenSoFar l.initial.out 0 (length l.initial.out) (λ i. l.w / 2 ^ (l.bits * (length l.initial.out - 1 - i)) % 2 ^ l.bits) l.j l.out
