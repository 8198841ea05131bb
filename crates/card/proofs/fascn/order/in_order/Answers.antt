-- `card::fascn::order::in_order` meets its contract: each run of characters is copied to its place, between the marks. Assumes nothing.
use mathlib.Core.Path.{◌≡◌, ◌∙◌}
use native.Mathlib.Omega.{arith}
use Rattle.common.specs.Lists.{list_of, slice_of}
use Rattle.common.proofs.StoreLaws.{run_is}
use Rattle.card.specs.Fascn.{values_from}
use Rattle.card.specs.FascnCode.{in_order, marks_mapped}
use Rattle.card.proofs.fascn.order.in_order.Goals as goal

pub returns : goal.returns
unfolding in_order marks_mapped values_from slice_of list_of
returns c =
    let run-1 : c.copy_from_slice.new.self ≡ slice_of 0 4 c.args.e.now = c.copy_from_slice.ensures.after ∙ run_is c.args.e.now 0 4 (omega (arith, c.told-e)) in
    let run-2 : c.copy_from_slice-2.new.self ≡ slice_of 4 4 c.args.e.now = c.copy_from_slice-2.ensures.after ∙ run_is c.args.e.now 4 4 (omega (arith, c.told-e)) in
    let run-3 : c.copy_from_slice-3.new.self ≡ slice_of 8 6 c.args.e.now = c.copy_from_slice-3.ensures.after ∙ run_is c.args.e.now 8 6 (omega (arith, c.told-e)) in
    let run-4 : c.copy_from_slice-4.new.self ≡ slice_of 16 16 c.args.e.now = c.copy_from_slice-4.ensures.after ∙ run_is c.args.e.now 16 16 (omega (arith, c.told-e)) in
    rw (run-4, run-3, run-2, run-1, c.character_of-c.ensures, c.character_of.ensures, c.character_of-2.ensures)
