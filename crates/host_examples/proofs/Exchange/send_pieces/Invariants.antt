-- `host_examples::Exchange::send_pieces` is safe: what is left is as long as what the pieces have still to come. Assumes nothing.
use mathlib.Core.Path.{◌≡◌}
use lib.ListN.{length}
use Rattle.std.specs.Slice.Iter.{chunks_rest}
use Rattle.host_examples.proofs.Exchange.send_pieces.Given as goal

abbrev pub invariant-loop-piece : goal.invariant-loop-piece
invariant-loop-piece l = l.left ≡ length (chunks_rest l.piece-iterator)
