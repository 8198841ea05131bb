-- `card::fascn::order::digits_in` meets its contract: each run of digits is copied to its place. Assumes nothing.
use mathlib.Core.Path.{◌≡◌, ◌∙◌}
use native.Mathlib.Omega.{arith}
use Rattle.common.specs.Lists.{list_of, slice_of}
use Rattle.common.proofs.StoreLaws.{run_is}
use Rattle.card.specs.Fascn.{digits_from}
use Rattle.card.proofs.fascn.order.digits_in.Goals as goal

pub returns : goal.returns
unfolding digits_from slice_of list_of
returns c =
    let run-1 : c.copy_from_slice.new.self ≡ slice_of 1 4 c.args.v.now = c.copy_from_slice.ensures.after ∙ run_is c.args.v.now 1 4 (omega (arith, c.told-v)) in
    let run-2 : c.copy_from_slice-2.new.self ≡ slice_of 6 4 c.args.v.now = c.copy_from_slice-2.ensures.after ∙ run_is c.args.v.now 6 4 (omega (arith, c.told-v)) in
    let run-3 : c.copy_from_slice-3.new.self ≡ slice_of 11 6 c.args.v.now = c.copy_from_slice-3.ensures.after ∙ run_is c.args.v.now 11 6 (omega (arith, c.told-v)) in
    let run-4 : c.copy_from_slice-4.new.self ≡ slice_of 22 16 c.args.v.now = c.copy_from_slice-4.ensures.after ∙ run_is c.args.v.now 22 16 (omega (arith, c.told-v)) in
    rw (run-4, run-3, run-2, run-1)
