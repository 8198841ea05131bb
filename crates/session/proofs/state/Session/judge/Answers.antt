-- `session::state::Session::judge` meets its contract: the step ends well, or its cause ends the reading. Assumes nothing.
use borrow.Author.Tests.{eqb-false}
use Rattle.session.specs.Operation.{cause_number, cause_never_zero}
use Rattle.session.proofs.JudgeLaws.{judged_well, judged_ill}
use Rattle.session.proofs.state.Session.judge.Goals as goal

pub returns-in-Ok : goal.returns-in-Ok
returns-in-Ok c = judged_well c.args.self c.args.joined.now c.args.cancelled.now c.in-Ok.ensures

pub returns-in-Err : goal.returns-in-Err
returns-in-Err c =
    rw (c.stopped.ensures, c.number.ensures) (judged_ill c.args.self c.args.joined.now c.args.cancelled.now c.in-Err.ensures (eqb-false (cause_number c.in-Err.cause) 0 (cause_never_zero c.in-Err.cause)))
