-- `host::number::put_four` meets its contract: four bytes stored at once. Assumes nothing.
use borrow.Author.Rules.{rules}
use mathlib.Core.Path.{◌≡◌, ap, ◌∙◌}
use native.Mathlib.Omega.{arith}
use lib.ListN.{length}
use Rattle.common.specs.Lists.{over_places}
use Rattle.common.proofs.StoreLaws.{store_fits}
use Rattle.host.proofs.NumberLaws.{be_four, length_high}
use Rattle.host.proofs.number.put_four.Goals as goal

pub returns : goal.returns
returns c =
    let e = c.to_be_bytes.ensures ∙ be_four c.args.x in
    let four : length c.to_be_bytes.result ≡ 4 = ap length e ∙ length_high 4 c.args.x in
    record { is = c.store.ensures ∙ store_fits c.args.out.now c.to_be_bytes.result c.args.at (omega (arith, four, c.requires)) ∙ ap (over_places c.args.out.now c.args.at) e; fits = search rules }
