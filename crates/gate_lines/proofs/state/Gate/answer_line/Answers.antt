-- `gate_lines::state::Gate::answer_line` meets its contract: the command call first, then the answer call on the session that it hands back. Assumes nothing.
use mathlib.Core.Path.{◌≡◌, sym, ap, ◌∙◌}
use Prim.Native.Nat.{ℕ}
use lib.ListN.{length, take}
use Rattle.session.specs.Tables.{object_size}
use Rattle.session.specs.Operation.{given}
use Rattle.session.specs.declared.state.Session.{Session}
use Rattle.gate_lines.specs.Line.{GateLine}
use Rattle.gate_lines.specs.Gate.{Gate, gate_after, reply_to, reply_by}
use Rattle.gate_lines.proofs.LineRunLaws.{answer_gives}
use Rattle.gate_lines.proofs.AnswerLineLaws.{line_not_seven}
use Rattle.gate_lines.proofs.state.Gate.answer_line.Goals as goal
use Rattle.gate_lines.proofs.state.Gate.answer_line.Goals.{After-take}

gives : (c : goal.After-take)
    → (record { session = (given c.answer-answered.result).1; keys = take c.self.inside.cards c.self.inside.keys; object = c.answer-answered.new.object } ≡ gate_after c.args.self.now (GateLine.answer c.args.bytes.now))
    × (reply_by (given c.answer-answered.result).0 ≡ reply_to c.args.self.now (GateLine.answer c.args.bytes.now))
gives c =
    answer_gives c.args.self.now (record { session = c.self.inside.session; keys = take c.self.inside.cards c.self.inside.keys; object = c.self.inside.object }) c.command.result.session _ _ _
    c.self.view_is (ap (λ (x : ℕ × ℕ × Session). x.2) c.command.ensures.result_value) c.answer-answered.ensures.result_value c.answer-answered.ensures.object_after

pub returns-clause-state : goal.returns-clause-state
returns-clause-state c = c.take.ensures.state ∙ (gives (goal.at.returns-clause-state c).After-take).0

pub returns-clause-reply : goal.returns-clause-reply
returns-clause-reply c = c.take.ensures.reply ∙ (gives (goal.at.returns-clause-reply c).After-take).1

pub returns-clause-never_seven : goal.returns-clause-never_seven
unfolding object_size
returns-clause-never_seven c =
    line_not_seven c.args.self.now (GateLine.answer c.args.bytes.now) _ (ap (λ (g : Gate). length g.object) (sym c.self.view_is) ∙ c.self.told.1)
    (c.take.ensures.reply ∙ (gives (goal.at.returns-clause-never_seven c).After-take).1)
