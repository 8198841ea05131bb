-- `session::range::outcomes_in_range` meets its contract: the chain tests each outcome. Assumes nothing.
use native.Mathlib.Omega.{arith}
use mathlib.Core.Path.{◌≡◌, ◌∙◌}
use lib.Dec.{leb}
use lib.ListN.{length}
use borrow.Author.Tests.{tests}
use Rattle.std.proofs.Common.{rules}
use Rattle.std.proofs.lemmas.Iterator.{YieldsList-from_slice}
use Rattle.std.proofs.lemmas.Iterator.Search.{all_from_yields_List}
use Rattle.common.proofs.FoldLaws.{list_all_is}
use Rattle.session.specs.Tables.{checks, other_card}
use Rattle.session.specs.Ranges.{outcomes_in_range}
use Rattle.session.proofs.range.outcomes_in_range.Goals as goal

pub returns : goal.returns
unfolding outcomes_in_range
returns c =
    let counted : length c.args.o ≡ checks = omega arith in
    all_from_yields_List (λ x. leb x other_card) _ _ _ c.all.ensures.ran (YieldsList-from_slice c.args.o cc) (λ x b q k. search (rules, tests))
    ∙ (rw counted at (list_all_is (λ x. leb x other_card) c.args.o))
