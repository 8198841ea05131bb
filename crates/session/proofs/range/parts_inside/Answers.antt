-- `session::range::parts_inside` meets its contract: the chain tests each part. Assumes nothing.
use native.Mathlib.Omega.{arith}
use mathlib.Core.Path.{◌≡◌, ◌∙◌}
use lib.ListN.{length}
use borrow.Author.Tests.{tests}
use Rattle.std.proofs.Common.{rules}
use Rattle.std.proofs.lemmas.Iterator.{YieldsList-from_slice}
use Rattle.std.proofs.lemmas.Iterator.Search.{all_from_yields_List}
use Rattle.card.specs.Object.{empty, most_fields}
use Rattle.session.specs.Ranges.{part_inside, parts_inside}
use Rattle.session.proofs.ChainLaws.{list_all_at}
use Rattle.session.proofs.range.parts_inside.Goals as goal

pub returns : goal.returns
unfolding parts_inside
returns c =
    let counted : length c.args.parts ≡ most_fields = omega arith in
    all_from_yields_List (λ p. part_inside c.args.base p) _ _ _ c.all.ensures.ran (YieldsList-from_slice c.args.parts cc) (λ x b q k. search (rules, tests))
    ∙ (rw counted at (list_all_at (λ p. part_inside c.args.base p) empty c.args.parts))
