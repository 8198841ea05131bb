-- `vectors::answer::object::all_decimal` meets its contract: every byte is tested. Assumes nothing.
use mathlib.Core.Path.{◌∙◌}
use mathlib.Core.Bool.{◌&&◌}
use Prim.Native.Nat.{◌/◌, ◌%◌}
use lib.Dec.{ltb}
use borrow.Author.Rules.{rules}
use borrow.Author.Tests.{tests}
use Rattle.std.proofs.lemmas.Iterator.{YieldsList-from_slice}
use Rattle.std.proofs.lemmas.Iterator.Search.{all_from_yields_List}
use Rattle.common.proofs.FoldLaws.{list_all_is}
use Rattle.vectors.specs.ObjectText.{decimal_pair}
use Rattle.vectors.proofs.answer.object.all_decimal.Goals as goal

pub returns : goal.returns
unfolding decimal_pair
returns c =
    all_from_yields_List (λ x. ltb (x / 16) 10 && ltb (x % 16) 10) _ _ _ c.all.ensures.ran (YieldsList-from_slice c.args.s.now cc) (λ x b q k. search (rules, tests))
    ∙ list_all_is (λ x. ltb (x / 16) 10 && ltb (x % 16) 10) c.args.s.now
