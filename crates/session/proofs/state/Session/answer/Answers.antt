-- `session::state::Session::answer` meets its contract: the answer is taken, or refused. Assumes nothing.
use mathlib.Core.Path.{refl, sym, ap, ◌∙◌}
use native.Mathlib.Omega.{arith}
use lib.ListN.{length}
use Rattle.session.specs.Operation.{given}
use Rattle.session.proofs.CallLaws.{answer_taken_lem, answer_refused_lem, Fitting, answer_fits}
use Rattle.session.proofs.ReplyLaws.{not_zero}
use Rattle.session.proofs.CallPromiseLaws.{answer_promise}
use Rattle.session.proofs.RangesLaws.{filled_in_range}
use Rattle.session.proofs.state.Session.answer.Goals as goal
use Rattle.session.proofs.state.Session.answer.Goals.{In-Ok}

fits : (c : goal.In-Ok) → Fitting c.args.self (length c.args.object.now) (length c.args.answer.now)
fits c = answer_fits _ _ _ (sym c.in-Ok.ensures)

pub overflow_sub-answer : goal.overflow_sub-answer
overflow_sub-answer c = (fits (goal.at.overflow_sub-answer c).In-Ok).least

pub take_answer-requires : goal.take_answer-requires
take_answer-requires c =
    let f = fits (goal.at.take_answer-requires c).In-Ok in (
      f.whole,
      omega (arith, c.split_at.ensures.front_len, f.most),
      omega (arith, c.split_at.ensures.back_len, f.least),
      filled_in_range c.args.self f.range,
    )

pub returns-in-Ok : goal.returns-in-Ok
returns-in-Ok c =
    let e = answer_taken_lem c.args.self c.args.object.now c.args.answer.now c.args.cancelled.now c.in-Ok.ensures refl (rw (← c.split_at.ensures.front, ← c.split_at.ensures.back) c.take_answer.ensures.value) (rw (← c.split_at.ensures.front, ← c.split_at.ensures.back) c.take_answer.ensures.object_after) in
    let g = ap given c.accepted.ensures ∙ e.0 in
    record { result_value = g; object_after = e.1; for_every_list = answer_promise c.args.self c.args.object.now c.args.answer.now c.args.cancelled.now _ (λ i. omega (arith, c.type_inv.answer i)) g e.1 }

pub returns-in-Err : goal.returns-in-Err
returns-in-Err c =
    let e = answer_refused_lem c.args.self c.args.object.now c.args.answer.now c.args.cancelled.now c.in-Err.ensures (not_zero _) in
    let g = ap given c.refused.ensures ∙ e.0 in
    record { result_value = g; object_after = e.1; for_every_list = answer_promise c.args.self c.args.object.now c.args.answer.now c.args.cancelled.now _ (λ i. omega (arith, c.type_inv.answer i)) g e.1 }
