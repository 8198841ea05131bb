-- `session::tables::lowest_failed` meets its contract: the search finds the first outcome of a check that failed.
-- Assumes nothing.
use mathlib.Core.Path.{sym, ◌∙◌}
use borrow.Author.Tests.{tests}
use Rattle.std.proofs.Common.{rules}
use Rattle.std.proofs.lemmas.Iterator.{YieldsList-from_slice}
use Rattle.std.proofs.lemmas.Iterator.Search.{position_from_yields_List}
use Rattle.session.proofs.TablesLaws.{fails, lowest_found, lowest_none}
use Rattle.session.proofs.tables.lowest_failed.Goals as goal

pub returns-in-Some : goal.returns-in-Some
returns-in-Some c =
    lowest_found c.args.o c.in-Some.i
    (sym (position_from_yields_List fails _ _ _ c.position.ensures.ran (YieldsList-from_slice c.args.o cc) (λ x b q k. search (rules, tests))) ∙ c.in-Some.is)

pub returns-in-None : goal.returns-in-None
returns-in-None c =
    lowest_none c.args.o
    (sym (position_from_yields_List fails _ _ _ c.position.ensures.ran (YieldsList-from_slice c.args.o cc) (λ x b q k. search (rules, tests))) ∙ c.in-None.is)
