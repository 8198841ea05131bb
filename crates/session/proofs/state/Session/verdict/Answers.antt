-- `session::state::Session::verdict` meets its contract: the verdict is taken, or refused. Assumes nothing.
use mathlib.Core.Path.{refl, ap, ◌∙◌}
use Rattle.session.specs.Operation.{given, verdict_taken_session, verdict_of}
use Rattle.session.proofs.CallLaws.{accepts, refuses}
use Rattle.session.proofs.ReplyLaws.{not_zero}
use Rattle.session.proofs.CallPromiseLaws.{verdict_promise}
use Rattle.session.proofs.state.Session.verdict.Goals as goal

pub returns-in-Ok : goal.returns-in-Ok
unfolding verdict_of
returns-in-Ok c =
    let e = ap given c.accepted.ensures ∙ accepts c.args.self c.in-Ok.ensures refl c.take_verdict.ensures in
    record { result_value = e; for_every_list = verdict_promise c.args.self c.args.kind c.args.yes c.args.fascn.now e }

pub returns-in-Err : goal.returns-in-Err
unfolding verdict_of
returns-in-Err c =
    let e = ap given c.refused.ensures ∙ refuses {x = c.args.self} (verdict_taken_session c.args.self c.args.kind c.args.yes c.args.fascn.now) c.in-Err.ensures (not_zero _) refl in
    record { result_value = e; for_every_list = verdict_promise c.args.self c.args.kind c.args.yes c.args.fascn.now e }
