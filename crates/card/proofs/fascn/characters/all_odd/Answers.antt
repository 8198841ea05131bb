-- `card::fascn::characters::all_odd` meets its contract: a fold adds the test of each number. Assumes nothing.
use mathlib.Core.Path.{◌∙◌}
use mathlib.Core.Bool.{◌&&◌}
use borrow.Author.Tests.{tests}
use Rattle.std.proofs.Common.{rules}
use Rattle.std.proofs.lemmas.Iterator.{YieldsList-from_slice}
use Rattle.common.proofs.FoldLaws.{fold_from_yields_List, fold_all}
use Rattle.card.specs.FascnCode.{odd_char}
use Rattle.card.proofs.fascn.characters.all_odd.Goals as goal

pub returns : goal.returns
returns c =
    rw c.told-c at (fold_from_yields_List (λ ok x. ok && odd_char x) _ _ _ c.fold.ensures.ran (YieldsList-from_slice c.args.c.now cc) (λ a x b q k. search (rules, tests))
    ∙ fold_all (λ x. odd_char x) c.args.c.now)
