-- `text::hex::read` meets its contract: a turn stores byte i. Assumes nothing.
use lib.ListN.{length}
use Rattle.common.proofs.LoopLaws.{WrittenSoFar}
use Rattle.text.specs.Hex.{byte_at}
use Rattle.text.proofs.hex.read.Given as goal

abbrev pub invariant-loop-i : goal.invariant-loop-i
invariant-loop-i l = WrittenSoFar l.initial.o-items 0 (length l.initial.o-items) (byte_at l.s) l.i l.o-items
