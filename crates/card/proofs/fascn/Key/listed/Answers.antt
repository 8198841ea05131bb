-- `card::fascn::Key::listed` meets its contract: the key is equal to one of the list. Assumes nothing.
use mathlib.Core.Path.{◌≡◌, refl, ◌∙◌}
use mathlib.Core.Bool.{Bool, true, false, ◌||◌}
use mathlib.Core.List.{List, [], ◌∷◌}
use Prim.Native.Nat.{ℕ}
use lib.Dec.{eqb}
use borrow.Author.Tests.{tests}
use Rattle.std.specs.List.{fold}
use Rattle.std.proofs.Common.{rules}
use Rattle.std.proofs.lemmas.Iterator.{YieldsList-from_slice}
use Rattle.common.specs.Lists.{is_in}
use Rattle.common.proofs.FoldLaws.{fold_from_yields_List}
use Rattle.card.proofs.fascn.Key.listed.Goals as goal

-- what is found so far, or stands in the rest
found_in : (x : ℕ) (l : List ℕ) (found : Bool) → fold (λ found key. found || eqb x key) found l ≡ found || is_in x l
found_in x [] true = refl
found_in x [] false = refl
found_in x (y ∷ l) true = found_in x l true
found_in x (y ∷ l) false = found_in x l (eqb x y)

pub returns : goal.returns
returns c =
    fold_from_yields_List (λ found key. found || eqb c.args.self.0 key) _ _ _ c.fold.ensures.ran (YieldsList-from_slice c.args.cancelled.now cc) (λ a x b q k. search (rules, tests))
    ∙ found_in c.args.self.0 c.args.cancelled.now false
