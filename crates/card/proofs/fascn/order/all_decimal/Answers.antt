-- `card::fascn::order::all_decimal` meets its contract: a fold adds the test of each number. Assumes nothing.
use mathlib.Core.Path.{◌∙◌}
use mathlib.Core.Bool.{◌&&◌}
use borrow.Author.Tests.{tests}
use lib.Dec.{leb}
use Rattle.std.proofs.Common.{rules}
use Rattle.std.proofs.lemmas.Iterator.{YieldsList-from_slice}
use Rattle.common.proofs.FoldLaws.{fold_from_yields_List, fold_all}
use Rattle.card.specs.Fascn.{decimal_at}
use Rattle.card.proofs.fascn.order.all_decimal.Goals as goal

pub returns : goal.returns
unfolding decimal_at
returns c =
    rw c.told-d at (fold_from_yields_List (λ ok x. ok && leb x 9) _ _ _ c.fold.ensures.ran (YieldsList-from_slice c.args.d.now cc) (λ a x b q k. search (rules, tests))
    ∙ fold_all (λ x. leb x 9) c.args.d.now)
