-- `session::state::Session::stamp` meets its contract: the stamp is accepted or refused. Assumes nothing.
use mathlib.Core.Path.{refl, sym, ap, ◌∙◌}
use Rattle.session.specs.Operation.{given}
use Rattle.session.proofs.CallLaws.{stamp_fits, stamp_given, stamp_accepted, stamp_refused}
use Rattle.session.proofs.ReplyLaws.{not_zero}
use Rattle.session.proofs.CallPromiseLaws.{stamp_promise}
use Rattle.session.proofs.state.Session.stamp.Goals as goal

pub write_stamp-requires : goal.write_stamp-requires
write_stamp-requires c = stamp_fits _ _ (sym c.in-Ok.ensures)

pub returns-in-Ok : goal.returns-in-Ok
returns-in-Ok c =
    let e = ap given c.accepted.ensures ∙ stamp_given c.args.self _ c.in-Ok.ensures in
    let left = stamp_accepted c.args.self c.args.out.now c.in-Ok.ensures refl c.write_stamp.ensures in
    record { result_value = e; out_after = left; for_every_list = stamp_promise c.args.self c.args.out.now _ e left }

pub returns-in-Err : goal.returns-in-Err
returns-in-Err c =
    let e = ap given c.refused.ensures ∙ stamp_given c.args.self _ c.in-Err.ensures in
    let left = stamp_refused c.args.self c.args.out.now c.in-Err.ensures (not_zero _) in
    record { result_value = e; out_after = left; for_every_list = stamp_promise c.args.self c.args.out.now _ e left }
