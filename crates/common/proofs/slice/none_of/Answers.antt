-- `common::slice::none_of` meets its contract: a fold adds the test of each byte. Assumes nothing.
use mathlib.Core.Path.{◌∙◌}
use mathlib.Core.Bool.{◌&&◌, not}
use lib.Dec.{eqb}
use borrow.Author.Tests.{tests}
use Rattle.std.proofs.Common.{rules}
use Rattle.std.proofs.lemmas.Iterator.{YieldsList-from_slice}
use Rattle.common.proofs.FoldLaws.{fold_from_yields_List, fold_list_all}
use Rattle.common.proofs.slice.none_of.Goals as goal

pub returns : goal.returns
returns c =
    fold_from_yields_List (λ absent b. absent && not (eqb b c.args.x)) _ _ _ c.fold.ensures.ran (YieldsList-from_slice c.args.block.now cc) (λ a b r q k. search (rules, tests))
    ∙ fold_list_all (λ b. not (eqb b c.args.x)) c.args.block.now
