-- `card::tlv::ending` meets its contract: the test picks the case. Assumes nothing.
use Prim.Native.Nat.{◌+◌}
use native.Mathlib.Omega.{arith}
use borrow.Author.Tests.{lt-ltb, le-ltb}
use lib.ListN.{length}
use Rattle.card.specs.Tlv.{ending_of}
use Rattle.card.proofs.tlv.ending.Goals as goal

pub returns-then-s-start : goal.returns-then-s-start
unfolding ending_of
returns-then-s-start c = rw (lt-ltb (length c.args.s.now) (c.args.start + c.args.len) (omega arith))

pub returns-else-s-start : goal.returns-else-s-start
unfolding ending_of
returns-else-s-start c = rw (le-ltb (length c.args.s.now) (c.args.start + c.args.len) (omega arith))
