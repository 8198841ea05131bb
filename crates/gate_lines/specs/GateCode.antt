-- How the code's answer to a line is read: as the reply that the line has by the definitions. The public contracts cite
-- it.
-- Assumes nothing.
use Rattle.std.specs.Prelude.{Result, Ok, Err}
use Rattle.session.specs.Operation.{refusal_number}
use Rattle.gate_lines.specs.Gate.{Reply}
use Rattle.gate_lines.specs.declared.state.LineError.{LineError}
use Rattle.gate_lines.specs.declared.state.LineError.TheVariants.{Refused, Bad}
use Rattle.gate_lines.specs.declared.state.LineReply.{LineReply}
use Rattle.gate_lines.specs.declared.state.LineReply.TheVariants as line-reply

abbrev pub reply_of : Result Unit LineError → Reply
reply_of (Ok _) = Reply.ok
reply_of (Err (Refused refusal)) = Reply.refused (refusal_number refusal)
reply_of (Err Bad) = Reply.bad

-- The same of a reply by its number, which may be any.
abbrev pub reply_by_line : LineReply → Reply
reply_by_line line-reply.Ok = Reply.ok
reply_by_line (line-reply.Refused n) = Reply.refused n
reply_by_line line-reply.Bad = Reply.bad
