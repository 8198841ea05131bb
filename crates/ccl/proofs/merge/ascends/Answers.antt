-- `ccl::merge::ascends` meets its contract: a pair adds its test. Assumes nothing.
use mathlib.Core.Path.{◌∙◌}
use mathlib.Core.Bool.{◌&&◌}
use borrow.Author.Tests.{tests}
use lib.Dec.{ltb}
use lib.ListN.{get_or}
use Rattle.std.proofs.Common.{rules}
use Rattle.common.proofs.FoldLaws.{fold_from_yields_List}
use Rattle.ccl.proofs.MergeCodeLaws.{windows_pairs, pairs_ascend}
use Rattle.ccl.proofs.merge.ascends.Goals as goal

pub returns : goal.returns
returns c =
    fold_from_yields_List (λ ok w. ok && ltb (get_or w 0 0) (get_or w 1 0)) _ _ _ c.fold.ensures.ran (windows_pairs c.windows.result c.args.keys.now c.windows.ensures.rest c.windows.ensures.size) (λ a x b q k. search (rules, tests))
    ∙ pairs_ascend c.args.keys.now
