-- `card::fascn::order::check_value` meets its contract: a fold takes in each digit, from the marks on. Assumes nothing.
use mathlib.Core.Path.{sym, ap, ◌∙◌}
use mathlib.Core.List.{List}
use Prim.Native.Nat.{ℕ}
use borrow.Author.Tests.{tests}
use lib.Bits.{bit_xor}
use Rattle.std.proofs.Common.{rules}
use Rattle.std.proofs.lemmas.Iterator.{YieldsList-from_slice}
use Rattle.common.specs.Lists.{xor_of}
use Rattle.common.proofs.FoldLaws.{fold_from_yields_List, fold_xor, list_of_get}
use Rattle.card.specs.Fascn.{order}
use Rattle.card.specs.FascnCode.{marks_of, check_digits}
use Rattle.card.proofs.fascn.order.check_value.Goals as goal

pub returns : goal.returns
unfolding check_digits marks_of xor_of
returns c =
    fold_from_yields_List (λ x y. bit_xor x y) _ _ _ c.fold.ensures.ran (YieldsList-from_slice c.args.d.now cc) (λ a x b q k. search (rules, tests))
    ∙ fold_xor _ c.args.d.now ∙ ap (λ (l : List ℕ). bit_xor (xor_of (marks_of order)) (xor_of l)) (sym (rw c.told-d at (list_of_get c.args.d.now)))
