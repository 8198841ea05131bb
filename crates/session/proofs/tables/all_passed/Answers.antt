-- `session::tables::all_passed` meets its contract: the chain tests each outcome with the number of its check. Assumes nothing.
use mathlib.Core.Path.{◌∙◌}
use mathlib.Core.Bool.{not, ◌||◌}
use Prim.Native.Nat.{ℕ, ◌+◌}
use lib.Dec.{eqb}
use borrow.Author.Tests.{tests}
use Rattle.std.proofs.Common.{rules}
use Rattle.std.proofs.lemmas.Iterator.{YieldsList-from_slice}
use Rattle.std.proofs.lemmas.Iterator.Consumers.{YieldsList-from_enumerate}
use Rattle.std.proofs.lemmas.Iterator.Search.{all_from_yields_List}
use Rattle.session.specs.Tables.{needs, passed, all_passed}
use Rattle.session.proofs.ChainLaws.{list_all_enumerated}
use Rattle.session.proofs.tables.all_passed.Goals as goal

pub returns : goal.returns
unfolding all_passed
returns c =
    all_from_yields_List (λ (p : ℕ × ℕ). not (needs c.args.mode (p.0 + 1)) || eqb p.1 passed) _ _ _ c.all.ensures.ran
    (YieldsList-from_enumerate (YieldsList-from_slice c.args.o cc) cc)
    (λ x b q k. search (rules, tests))
    ∙ list_all_enumerated (λ i x. not (needs c.args.mode (i + 1)) || eqb x passed) c.args.o
