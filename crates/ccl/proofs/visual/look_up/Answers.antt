-- `ccl::visual::look_up` meets its contract: a CIN is looked up, and what is none is refused. Assumes nothing.
use Rattle.std.proofs.lemmas.Result.{err_from_is_err_and}
use Rattle.ccl.specs.Visual.{typed_of}
use Rattle.ccl.proofs.CinLaws.{entry_typed, entry_refused}
use Rattle.ccl.proofs.visual.look_up.Goals as goal

pub returns-in_err-cin : goal.returns-in_err-cin
unfolding typed_of
returns-in_err-cin c =
    let p = err_from_is_err_and c.from_residual.result c.from_residual.ensures.1 in
    rw (p.1, p.2, entry_refused c.args.typed.now c.read_entry.result c.in_err-cin.field-0.0 c.in_err-cin.was c.read_entry.ensures)

pub returns-in_err-listed : goal.returns-in_err-listed
unfolding typed_of
returns-in_err-listed c =
    let p = err_from_is_err_and c.from_residual-in_err-listed.result c.from_residual-in_err-listed.ensures.1 in
    let e = entry_typed c.args.typed.now c.read_entry.result c.in_ok-cin.cin c.in_ok-cin.was c.read_entry.ensures in
    rw (p.1, p.2, e.0, e.1) c.in_err-listed.ensures

pub returns : goal.returns
unfolding typed_of
returns c = let e = entry_typed c.args.typed.now c.read_entry.result c.in_ok-cin.cin c.in_ok-cin.was c.read_entry.ensures in rw (e.0, e.1) c.in_ok-listed.ensures
