-- `card::fascn::order::digit_characters` meets its contract: a turn stores character k. Assumes nothing.
use lib.ListN.{get_or}
use Rattle.common.proofs.LoopLaws.{WrittenSoFar}
use Rattle.card.specs.FascnCode.{char_of}
use Rattle.card.proofs.fascn.order.digit_characters.Given as goal

abbrev pub invariant-loop-k : goal.invariant-loop-k
invariant-loop-k l = WrittenSoFar l.initial.o-items 0 32 (λ j. char_of (get_or l.d j 0)) l.k l.o-items
