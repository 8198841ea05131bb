-- `session::open::open` meets its contract: the opening is accepted or refused. Assumes nothing.
use mathlib.Core.Path.{refl, sym, ap, ◌∙◌}
use Rattle.session.specs.Operation.{given, opened, dead, open_of}
use Rattle.session.proofs.CallLaws.{open_fits, accepts, refuses}
use Rattle.session.proofs.ReplyLaws.{not_zero}
use Rattle.session.proofs.CallPromiseLaws.{open_promise}
use Rattle.session.proofs.open.open.Goals as goal

pub opened-requires : goal.opened-requires
opened-requires c = open_fits _ _ _ (sym c.in-Ok.ensures)

pub returns-in-Ok : goal.returns-in-Ok
unfolding open_of
returns-in-Ok c =
    let e = ap given c.accepted.ensures ∙ accepts dead c.in-Ok.ensures refl c.opened.ensures in
    record { result_value = e; for_every_list = open_promise c.args.mode c.args.date c.args.aid.now e }

pub returns-in-Err : goal.returns-in-Err
unfolding open_of
returns-in-Err c =
    let e = ap given c.refused.ensures ∙ refuses {s = dead} (opened c.args.mode c.args.date c.args.aid.now) c.in-Err.ensures (not_zero _) c.dead_session.ensures in
    record { result_value = e; for_every_list = open_promise c.args.mode c.args.date c.args.aid.now e }
