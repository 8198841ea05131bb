-- `session::state::Session::command` meets its contract: the command is outstanding where it is sent. Assumes nothing.
use mathlib.Core.Path.{ap, ◌∙◌}
use Rattle.session.specs.Operation.{command_given}
use Rattle.session.proofs.ReplyLaws.{not_zero}
use Rattle.session.proofs.SendLaws.{command_accepted, command_declined}
use Rattle.session.proofs.CallPromiseLaws.{command_promise}
use Rattle.session.proofs.state.Session.command.Goals as goal

pub returns-in-Ok : goal.returns-in-Ok
returns-in-Ok c =
    let e = ap command_given c.accepted.ensures ∙ command_accepted c.args.self _ c.in-Ok.ensures.number c.in-Ok.ensures.count in
    let left = c.command_sent.ensures.out_after in
    record { result_value = e; out_after = left; for_every_list = command_promise c.args.self c.args.out.now _ e left }

pub returns-in-Err : goal.returns-in-Err
returns-in-Err c =
    let e = ap command_given c.refused.ensures ∙ command_declined c.args.self _ (not_zero _) c.in-Err.ensures.number c.in-Err.ensures.count in
    let left = c.command_sent.ensures.out_after in
    record { result_value = e; out_after = left; for_every_list = command_promise c.args.self c.args.out.now _ e left }
