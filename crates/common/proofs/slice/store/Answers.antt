-- `common::slice::store` meets its contract: two tests say whether the bytes fit, and they are copied over the part of
-- out that begins at the place. Assumes nothing.
use Rattle.std.proofs.Common.{◌≡◌, sym, ◌∙◌, ℕ, ◌+◌, ◌-◌, List, append_assoc, length, take, drop, arith}
use lib.Seq.{drop-drop}
use borrow.Rule.Slice.PartMut.{put_mid}
use Rattle.common.specs.Lists.{over_places}
use Rattle.common.proofs.StoreLaws.{store_fits, store_not}
use Rattle.common.proofs.slice.store.Goals as goal
use Rattle.common.proofs.slice.store.Goals.{else-at-out-via-then-at-out+else-s-out, else-at-out-via-else-at-out}

-- a part from place `at` on that holds s now
part_is : (d s l : List ℕ) (at : ℕ) → l ≡ s → put_mid at ((at + length s) - at) d l ≡ over_places d at s
unfolding over_places
part_is d s l at e =
    let k : (at + length s) - at ≡ length s = omega arith in
    rw (e, k, drop-drop) (sym (append_assoc (take at d) s (drop (at + length s) d)))

pub returns-then-s-out : goal.returns-then-s-out
returns-then-s-out c =
    part_is c.args.out.now c.args.s.now _ c.args.at c.copy_from_slice.ensures.after ∙ sym (store_fits c.args.out.now c.args.s.now c.args.at (omega arith))

pub returns-else-at-out : goal.returns-else-at-out
returns-else-at-out c =
    sym (store_not c.args.out.now c.args.s.now c.args.at
    (elim c.else-at-out.branch [ else-at-out-via-then-at-out+else-s-out w ↦ omega (arith, w.if-at-out, w.if-s-out) | else-at-out-via-else-at-out w ↦ omega (arith, w.if-at-out) ]))
