-- `card::fascn::characters::values_in` meets its contract: a turn stores value i. Assumes nothing.
use lib.ListN.{get_or}
use Rattle.common.proofs.LoopLaws.{WrittenSoFar}
use Rattle.card.specs.FascnCode.{value_char}
use Rattle.card.proofs.fascn.characters.values_in.Given as goal

abbrev pub invariant-loop-i : goal.invariant-loop-i
invariant-loop-i l = WrittenSoFar l.initial.o-items 0 40 (λ j. value_char (get_or l.c j 0)) l.i l.o-items
