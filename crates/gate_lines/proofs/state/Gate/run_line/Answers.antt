-- `gate_lines::state::Gate::run_line` meets its contract: each kind of line has its function. Assumes nothing.
use mathlib.Core.Path.{sym, ap, subst, ◌∙◌}
use Rattle.std.specs.Prelude.{Some}
use Rattle.gate_lines.specs.Line.{GateLine, open_head, answer_head, verdict_head}
use Rattle.gate_lines.specs.LineCode.{line_by, Fits}
use Rattle.gate_lines.specs.declared.line.Line.{Line}
use Rattle.gate_lines.specs.Gate.{reply_to}
use Rattle.gate_lines.proofs.LentLaws.{hex_short}
use Rattle.gate_lines.proofs.PrintedLaws.{reply_promise}
use Rattle.gate_lines.proofs.AnswerLineLaws.{line_not_seven}
use Rattle.gate_lines.proofs.state.Gate.run_line.Goals as goal

pub bytes_of-requires : goal.bytes_of-requires
bytes_of-requires c = hex_short open_head c.args.s.now _ (subst (λ (l : Line). Fits (Some l) c.args.s.now) c.in-Some-Open.field-0-is c.in-Some-Open.ensures.fits)

pub bytes_of-requires-in-Some-Answer : goal.bytes_of-requires-in-Some-Answer
bytes_of-requires-in-Some-Answer c = hex_short answer_head c.args.s.now _ (subst (λ (l : Line). Fits (Some l) c.args.s.now) c.in-Some-Answer.field-0-is c.in-Some-Answer.ensures.fits)

pub bytes_of-requires-in-Some-Verdict : goal.bytes_of-requires-in-Some-Verdict
bytes_of-requires-in-Some-Verdict c = hex_short verdict_head c.args.s.now _ (subst (λ (l : Line). Fits (Some l) c.args.s.now) c.in-Some-Verdict.field-0-is c.in-Some-Verdict.ensures.fits)

pub returns-in-Some-Open-clause-never_seven : goal.returns-in-Some-Open-clause-never_seven
returns-in-Some-Open-clause-never_seven c =
    line_not_seven c.args.self.now (GateLine.opening c.in-Some-Open.mode c.in-Some-Open.date c.bytes_of.result.now) _ tt c.open_line.ensures.reply

pub returns-in-Some-Answer-clause-for_every_list : goal.returns-in-Some-Answer-clause-for_every_list
returns-in-Some-Answer-clause-for_every_list c =
    let line = ap GateLine.answer c.bytes_of-in-Some-Answer.ensures ∙ ap (λ (l : Line). line_by (Some l)) (sym c.in-Some-Answer.field-0-is) ∙ c.in-Some-Answer.ensures.is in
    reply_promise c.args.self.now _ _ (c.answer_line.ensures.reply ∙ ap (reply_to c.args.self.now) line)

pub returns-in-Some-Verdict-clause-never_seven : goal.returns-in-Some-Verdict-clause-never_seven
returns-in-Some-Verdict-clause-never_seven c =
    line_not_seven c.args.self.now (GateLine.verdict c.in-Some-Verdict.kind c.in-Some-Verdict.yes c.bytes_of-in-Some-Verdict.result.now) _ tt c.verdict_line.ensures.reply
