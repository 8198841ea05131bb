-- `host::image::save` meets its contract: segment after segment, and found again. Assumes nothing.
use mathlib.Core.Path.{◌≡◌, refl, sym, ap, ◌∙◌}
use native.Mathlib.Omega.{arith}
use Prim.Native.Nat.{ℕ, ◌*◌}
use lib.ListN.{length}
use Rattle.host.specs.Image.{high_first, part_bytes, parts_bytes, small_bytes, load_of, Fits}
use Rattle.host.proofs.NumberLaws.{length_high}
use Rattle.host.proofs.ImageLaws.{flag_from, length_part, length_parts, load_save}
use Rattle.host.proofs.SaveLaws.{fill_first, fill_on, fill_store, filled_whole, saved}
use Rattle.host.proofs.image.save.Goals as goal

pub slice_bounds-store-end-8 : goal.slice_bounds-store-end-8
slice_bounds-store-end-8 c = sym c.sized-3.ensures

pub returns : goal.returns
returns c = let whole : length c.args.image.now ≡ 161 = omega arith in
    let first = fill_first c.args.image.now (small_bytes c.args.s) (c.store.ensures ∙ rw (c.from.ensures ∙ flag_from c.args.s.progress.outstanding, ap (λ (x : ℕ × ℕ). x.0) c.next_bytes-kind.ensures, ap (λ (x : ℕ × ℕ). x.1) c.next_bytes-kind.ensures)) refl (omega (arith, whole)) in
    let f1 = fill_on (high_first 4 c.args.s.opening.date) first c.put_four.ensures.is (length_high 4 c.args.s.opening.date) in
    let f2 = fill_on (high_first 4 c.args.s.card.expiry) f1 c.put_four-2.ensures.is (length_high 4 c.args.s.card.expiry) in
    let f3 = fill_on (high_first 8 c.args.s.opening.aid_len) f2 c.put_eight.ensures.is (length_high 8 c.args.s.opening.aid_len) in
    let f4 = fill_on (high_first 8 c.args.s.progress.filled) f3 c.put_eight-2.ensures.is (length_high 8 c.args.s.progress.filled) in
    let f5 = fill_store c.args.s.opening.aid f4 c.store-2.ensures c.sized.ensures (omega (arith, whole)) in
    let f6 = fill_store c.args.s.outcomes f5 c.store-3.ensures c.sized-2.ensures (omega (arith, whole)) in
    let f7 = fill_store c.args.s.card.fascn f6 c.store-4.ensures c.sized-3.ensures (omega (arith, whole)) in
    let fits : Fits c.args.s =
    record {
      date = c.put_four.ensures.fits;
      expiry = c.put_four-2.ensures.fits;
      aid_length = c.put_eight.ensures.fits;
      filled = c.put_eight-2.ensures.fits;
      aid = c.sized.ensures;
      outcomes = c.sized-2.ensures;
      fascn = c.sized-3.ensures;
      step1 = c.put_parts.ensures.fit;
      step2 = c.put_part.ensures.fits;
    } in
    let f8 = fill_on (parts_bytes c.args.s.card.step1) f7 c.put_parts.ensures.is (length_parts c.args.s.card.step1 ∙ ap (λ (n : ℕ). n * 8) fits.step1.count) in
    let f9 = fill_on (part_bytes c.args.s.card.step2) f8 c.put_part.ensures.is (length_part c.args.s.card.step2) in
    let is = filled_whole f9 whole ∙ saved c.args.s in
    record { is = is; again = ap load_of is ∙ load_save c.args.s fits }
