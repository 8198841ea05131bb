-- `ccl::list::small_keys` meets its contract: a key adds its test. Assumes nothing.
use mathlib.Core.Path.{◌∙◌}
use mathlib.Core.Bool.{◌&&◌}
use borrow.Author.Tests.{tests}
use lib.Dec.{ltb}
use Rattle.std.proofs.Common.{rules}
use Rattle.std.proofs.lemmas.Iterator.{YieldsList-from_slice}
use Rattle.common.proofs.FoldLaws.{fold_from_yields_List, fold_all}
use Rattle.ccl.specs.Line.{key_limit}
use Rattle.ccl.specs.ListText.{small_keys}
use Rattle.ccl.proofs.list.small_keys.Goals as goal

pub returns : goal.returns
unfolding small_keys
returns c =
    fold_from_yields_List (λ ok x. ok && ltb x key_limit) _ _ _ c.fold.ensures.ran (YieldsList-from_slice c.args.keys.now cc) (λ a x b q k. search (rules, tests)) ∙ fold_all (λ x. ltb x key_limit) c.args.keys.now
