-- `session::state::Session::step0_end` meets its contract: step 1 begins, or the template is malformed. Assumes nothing.
use mathlib.Core.Path.{sym, ◌∙◌}
use native.Mathlib.Omega.{arith}
use borrow.Author.Tests.{eq-eqb}
use Rattle.std.proofs.lemmas.Result.{err_from_is_err_and}
use Rattle.session.specs.Operation.{good_end_session}
use Rattle.session.proofs.JudgeLaws.{ends_well, ends_ill, template_cause}
use Rattle.session.proofs.state.Session.step0_end.Goals as goal

pub returns-in_err-template : goal.returns-in_err-template
returns-in_err-template c =
    let p = err_from_is_err_and c.from_residual.result c.from_residual.ensures.1 in
    rw (p.1, p.2) (ends_ill c.args.self c.args.joined.now c.args.cancelled.now (template_cause c.args.self c.args.joined.now c.requires ∙ sym c.in_err-template.ensures) (λ z. omega arith))

pub returns : goal.returns
unfolding good_end_session
returns c =
    ends_well c.args.self c.args.joined.now c.args.cancelled.now (template_cause c.args.self c.args.joined.now c.requires ∙ sym c.in_ok-template.ensures) (rw (eq-eqb _ _ c.requires, c.at_step.ensures))
