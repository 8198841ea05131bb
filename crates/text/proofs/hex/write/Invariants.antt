-- `text::hex::write` meets its contract: a turn stores digit i. Assumes nothing.
use lib.ListN.{length}
use Rattle.common.proofs.LoopLaws.{WrittenSoFar}
use Rattle.text.specs.Hex.{hex_digit_at}
use Rattle.text.proofs.hex.write.Given as goal

abbrev pub invariant-loop-i : goal.invariant-loop-i
invariant-loop-i l = WrittenSoFar l.initial.o-items 0 (length l.initial.o-items) (hex_digit_at l.s) l.i l.o-items
