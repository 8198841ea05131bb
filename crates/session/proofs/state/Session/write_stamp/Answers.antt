-- `session::state::Session::write_stamp` meets its contract: each store lengthens the front. Assumes nothing.
use mathlib.Core.Path.{◌≡◌, refl, sym, ap, ◌∙◌}
use native.Mathlib.Omega.{arith}
use mathlib.Core.List.{◌++◌}
use lib.ListN.{length, length-append}
use Rattle.common.proofs.StoreLaws.{store_first, store_next}
use Rattle.session.specs.Tables.{head_size, stamp_layout, stamp_size}
use Rattle.session.specs.Operation.{stamp_head, stamp_in}
use Rattle.session.specs.declared.state.Session.{Session}
use Rattle.session.proofs.state.Session.write_stamp.Goals as goal

-- the first store
head_length : (s : Session) → length (stamp_head s) ≡ head_size
unfolding stamp_head
head_length s = refl

pub returns : goal.returns
unfolding stamp_in stamp_layout stamp_size
returns c =
    let h-long : length c.stamp_head-head.result ≡ head_size = ap length c.stamp_head-head.ensures ∙ head_length c.args.self.now in
    let d-long : length c.to_be_bytes-date.result ≡ 4 = ap length c.to_be_bytes-date.ensures in
    let e-long : length c.to_be_bytes-expiry.result ≡ 4 = ap length c.to_be_bytes-expiry.ensures in
    let first = c.store.ensures ∙ store_first c.args.out.now c.stamp_head-head.result (omega (arith, c.requires, h-long)) in
    let second = c.store-2.ensures ∙ store_next c.stamp_head-head.result c.args.self.now.outcomes c.args.out.now first (sym h-long) (omega (arith, c.requires, h-long, c.sized.ensures)) in
    let ho = length-append c.stamp_head-head.result c.args.self.now.outcomes in
    let third = c.store-3.ensures ∙ store_next (c.stamp_head-head.result ++ c.args.self.now.outcomes) c.to_be_bytes-date.result c.args.out.now second (omega (arith, ho, h-long, c.sized.ensures)) (omega (arith, c.requires, ho, h-long, c.sized.ensures, d-long)) in
    let hod = length-append (c.stamp_head-head.result ++ c.args.self.now.outcomes) c.to_be_bytes-date.result in
    let fourth = c.store-4.ensures ∙ store_next ((c.stamp_head-head.result ++ c.args.self.now.outcomes) ++ c.to_be_bytes-date.result) c.args.self.now.card.fascn c.args.out.now third (omega (arith, hod, ho, h-long, c.sized.ensures, d-long)) (omega (arith, c.requires, hod, ho, h-long, c.sized.ensures, d-long, c.sized-2.ensures)) in
    let hodf = length-append ((c.stamp_head-head.result ++ c.args.self.now.outcomes) ++ c.to_be_bytes-date.result) c.args.self.now.card.fascn in
    rw (← c.stamp_head-head.ensures, ← c.to_be_bytes-date.ensures, ← c.to_be_bytes-expiry.ensures)
    (c.store-5.ensures
    ∙ store_next (((c.stamp_head-head.result ++ c.args.self.now.outcomes) ++ c.to_be_bytes-date.result) ++ c.args.self.now.card.fascn) c.to_be_bytes-expiry.result c.args.out.now fourth (omega (arith, hodf, hod, ho, h-long, c.sized.ensures, d-long, c.sized-2.ensures)) (omega (arith, hodf, hod, ho, h-long, c.sized.ensures, d-long, c.sized-2.ensures, e-long, c.requires)))
