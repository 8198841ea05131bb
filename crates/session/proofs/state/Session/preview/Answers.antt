-- `session::state::Session::preview` meets its contract: the verdict is refused, the room is, or the copy that has taken the verdict writes its stamp. Assumes nothing.
use mathlib.Core.Path.{refl}
use Rattle.std.proofs.lemmas.Result.{err_from_is_err_and}
use Rattle.session.proofs.PreviewLaws.{verdict_refuses, room_accepts, room_refuses}
use Rattle.session.proofs.ReplyLaws.{not_zero}
use Rattle.session.proofs.CallPromiseLaws.{preview_promise}
use Rattle.session.proofs.state.Session.preview.Goals as goal

pub returns-in_err-verdict_refusal : goal.returns-in_err-verdict_refusal
returns-in_err-verdict_refusal c =
    let e = verdict_refuses c.args.self c.args.kind c.args.yes c.args.fascn.now c.args.out.now c.in_err-verdict_refusal.ensures (not_zero _) in
    let p = err_from_is_err_and c.from_residual.result c.from_residual.ensures.1 in
    rw (p.1, p.2) (record { as_two_calls = e.1; in_order = e.0; for_every_list = preview_promise c.args.self c.args.kind c.args.yes c.args.fascn.now c.args.out.now _ e.1 })

pub returns-in_err-room_refusal : goal.returns-in_err-room_refusal
returns-in_err-room_refusal c =
    let e = room_refuses c.args.self c.args.kind c.args.yes c.args.fascn.now c.args.out.now c.in_ok-verdict_refusal.ensures refl c.in_err-room_refusal.ensures (not_zero _) in
    let p = err_from_is_err_and c.from_residual-in_err-room_refusal.result c.from_residual-in_err-room_refusal.ensures.1 in
    rw (p.1, p.2) (record { as_two_calls = e.1; in_order = e.0; for_every_list = preview_promise c.args.self c.args.kind c.args.yes c.args.fascn.now c.args.out.now _ e.1 })

pub returns : goal.returns
returns c =
    let e = room_accepts c.args.self c.args.kind c.args.yes c.args.fascn.now c.args.out.now c.in_ok-verdict_refusal.ensures refl c.in_ok-room_refusal.ensures refl (rw (← c.take_verdict-copy.ensures) c.write_stamp.ensures) in
    record { as_two_calls = e.1; in_order = e.0; for_every_list = preview_promise c.args.self c.args.kind c.args.yes c.args.fascn.now c.args.out.now _ e.1 }
