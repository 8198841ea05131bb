-- `append::add_hex` meets its contract: the digits are stored in the rest of the buffer. Assumes nothing.
use mathlib.Core.Path.{sym}
use native.Mathlib.Omega.{arith}
use Rattle.append.proofs.LentLaws.{added_full, hex_part}
use Rattle.append.proofs.add_hex.Goals as goal

pub returns-then-out-at : goal.returns-then-out-at
returns-then-out-at c = record { is = sym (added_full _ _ _ c.if-out-at.true) }

pub returns : goal.returns
returns c =
    hex_part c.args.out.now c.args.s.now c.args.at _ (omega arith) c.write-n.ensures.is c.write-n.ensures.stores
