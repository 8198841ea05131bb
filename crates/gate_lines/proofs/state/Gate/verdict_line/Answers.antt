-- `gate_lines::state::Gate::verdict_line` meets its contract: the call's reply and the session that it hands back. Assumes nothing.
use mathlib.Core.Path.{◌≡◌, ap, ◌∙◌}
use Prim.Native.Nat.{ℕ}
use Rattle.session.specs.Operation.{given, verdict_of}
use Rattle.session.specs.declared.state.Session.{Session}
use Rattle.gate_lines.specs.Gate.{Gate, gate_after, reply_to, reply_by, with_session}
use Rattle.gate_lines.proofs.state.Gate.verdict_line.Goals as goal
use Rattle.gate_lines.proofs.state.Gate.verdict_line.Goals.{After-take}

gives : (c : goal.After-take) → given c.verdict-answered.result ≡ verdict_of c.args.self.now.session c.args.kind c.args.yes c.args.fascn.now
gives c =
    c.verdict-answered.ensures.result_value
    ∙ ap (λ (g : Gate). verdict_of g.session c.args.kind c.args.yes c.args.fascn.now) c.self.view_is

pub returns-clause-state : goal.returns-clause-state
unfolding gate_after
returns-clause-state c = c.take.ensures.state ∙ ap (λ (x : ℕ × Session). with_session c.args.self.now x.1) (gives (goal.at.returns-clause-state c).After-take)

pub returns-clause-reply : goal.returns-clause-reply
unfolding reply_to
returns-clause-reply c = c.take.ensures.reply ∙ ap (λ (x : ℕ × Session). reply_by x.0) (gives (goal.at.returns-clause-reply c).After-take)
