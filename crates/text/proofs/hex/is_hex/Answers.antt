-- `text::hex::is_hex` meets its contract: a fold adds the test of each byte. Assumes nothing.
use mathlib.Core.Path.{◌∙◌}
use mathlib.Core.Bool.{◌&&◌}
use borrow.Author.Tests.{tests}
use lib.Dec.{ltb}
use Rattle.std.proofs.Common.{rules}
use Rattle.std.proofs.lemmas.Iterator.{YieldsList-from_slice}
use Rattle.common.proofs.FoldLaws.{fold_from_yields_List, fold_all}
use Rattle.text.specs.Hex.{digit_value, is_hex}
use Rattle.text.proofs.hex.is_hex.Goals as goal

pub returns : goal.returns
unfolding is_hex
returns c =
    rw (fold_from_yields_List (λ digits x. digits && ltb (digit_value x) 16) _ _ _ c.fold.ensures.ran (YieldsList-from_slice c.args.s.now cc) (λ a x b q k. search (rules, tests))
    ∙ fold_all (λ x. ltb (digit_value x) 16) c.args.s.now)
