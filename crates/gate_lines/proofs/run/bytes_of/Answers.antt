-- `gate_lines::run::bytes_of` meets its contract: there is room for all of them. Assumes nothing.
use native.Mathlib.Omega.{arith}
use Rattle.gate_lines.proofs.LentLaws.{bytes_taken}
use Rattle.gate_lines.proofs.run.bytes_of.Goals as goal

pub returns : goal.returns
returns c = bytes_taken c.args.spelled.now c.args.buffer.now c.read-n.new.out c.read-n.result c.requires (omega arith) c.read-n.ensures.is c.read-n.ensures.stores
