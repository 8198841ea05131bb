-- `gate_lines::state::Gate::open_line` meets its contract: the opening's reply decides. Assumes nothing.
use mathlib.Core.Path.{◌≡◌}
use Rattle.session.specs.Operation.{refusal_never_zero, given, open_of}
use Rattle.gate_lines.specs.Gate.{gate_after, reply_to}
use Rattle.gate_lines.proofs.LineRunLaws.{err_reply, refused_number, accepted_number}
use Rattle.gate_lines.proofs.state.Gate.open_line.Goals as goal
use Rattle.gate_lines.proofs.state.Gate.open_line.Goals.{After-open-opened}

opened : (c : goal.After-open-opened) → given c.open-opened.result ≡ open_of c.args.mode c.args.date c.args.aid.now
opened c = c.open-opened.ensures.result_value

pub returns-in_err-opened-clause-state : goal.returns-in_err-opened-clause-state
unfolding gate_after
returns-in_err-opened-clause-state c =
    rw (refused_number c.open-opened.result _ (opened (goal.at.returns-in_err-opened-clause-state c).After-open-opened) c.in_err-opened.was, refusal_never_zero _)

pub returns-in_err-opened-clause-reply : goal.returns-in_err-opened-clause-reply
unfolding reply_to
returns-in_err-opened-clause-reply c =
    rw (refused_number c.open-opened.result _ (opened (goal.at.returns-in_err-opened-clause-reply c).After-open-opened) c.in_err-opened.was) (err_reply c.from_residual.result _ c.from_residual.ensures.1)

pub returns-clause-state : goal.returns-clause-state
unfolding gate_after
returns-clause-state c =
    let e = opened (goal.at.returns-clause-state c).After-open-opened in
    rw (accepted_number c.open-opened.result _ e c.in_ok-opened.was, ← e, ← c.self.view_is)

pub returns-clause-reply : goal.returns-clause-reply
unfolding reply_to
returns-clause-reply c = rw (accepted_number c.open-opened.result _ (opened (goal.at.returns-clause-reply c).After-open-opened) c.in_ok-opened.was)
