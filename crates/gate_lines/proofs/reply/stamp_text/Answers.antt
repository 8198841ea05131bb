-- `gate_lines::reply::stamp_text` meets its contract: three parts, of which the second is the stamp's digits. Assumes nothing.
use native.Mathlib.Omega.{arith}
use Rattle.text.specs.Hex.{hex_of}
use Rattle.session.specs.Tables.{stamp_size}
use Rattle.gate_lines.specs.Gate.{stamp_opens, closing, stamp_text, text_size}
use Rattle.gate_lines.proofs.ReplyTextLaws.{three_parts, stamp_fits}
use Rattle.gate_lines.proofs.reply.stamp_text.Goals as goal

pub returns : goal.returns
unfolding stamp_text text_size stamp_size
returns c = three_parts text_size stamp_opens (hex_of c.args.stamp.now) closing c.new-text.ensures c.add.ensures c.add_hex.ensures c.add-2.ensures (stamp_fits c.args.stamp.now (omega arith))
