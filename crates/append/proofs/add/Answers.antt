-- `append::add` meets its contract: as many bytes are stored as there is room for. Assumes nothing.
use mathlib.Core.Path.{refl, sym, ap, ◌∙◌}
use mathlib.Core.List.{List}
use Prim.Native.Nat.{ℕ, ◌+◌, ◌≤◌}
use native.Mathlib.Omega.{arith}
use lib.ListN.{length, take, length-take}
use lib.Seq.{length-take-le}
use Rattle.common.proofs.StoreLaws.{store_fits}
use Rattle.append.proofs.LentLaws.{added_full, added-part}
use Rattle.append.proofs.add.Goals as goal

pub returns-then-out-at : goal.returns-then-out-at
returns-then-out-at c = record { is = sym (added_full _ _ _ c.if-out-at.true) }

pub slice_bounds-store-end : goal.slice_bounds-store-end
slice_bounds-store-end c = sym (length-take-le _ _ (omega arith))

pub returns : goal.returns
returns c =
    let room : c.args.at + length (take c.min-n.result c.args.s.now) ≤ length c.args.out.now = rw length-take (omega arith) in
    record {
      is = ap (λ (l : List ℕ). (c.args.at + c.min-n.result, l)) (c.store.ensures ∙ store_fits c.args.out.now (take c.min-n.result c.args.s.now) c.args.at room)
          ∙ added-part c.args.out.now c.args.s.now (take c.min-n.result c.args.s.now) c.args.at c.min-n.result (omega arith) c.min-n.ensures refl;
    }
