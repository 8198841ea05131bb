-- `common::slice::same` meets its contract: a fold over both lists adds the test of each pair. Assumes nothing.
use mathlib.Core.Path.{◌∙◌}
use mathlib.Core.Bool.{◌&&◌}
use Prim.Native.Nat.{ℕ}
use borrow.Author.Tests.{eq-eqb, ne_eqb, tests}
use lib.Dec.{eqb}
use Rattle.std.proofs.Common.{rules}
use Rattle.std.proofs.lemmas.Iterator.{YieldsList-from_slice, YieldsList-from_zip}
use Rattle.common.specs.Lists.{same_bytes}
use Rattle.common.proofs.FoldLaws.{fold_from_yields_List, fold_zip_all}
use Rattle.common.proofs.slice.same.Goals as goal

pub returns-then-a-b : goal.returns-then-a-b
unfolding same_bytes
returns-then-a-b c =
    rw (eq-eqb _ _ c.if-a-b.true)
    (fold_from_yields_List (λ same (p : ℕ × ℕ). same && eqb p.0 p.1) _ _ _ c.fold.ensures.ran (YieldsList-from_zip (YieldsList-from_slice c.args.a.now cc) (YieldsList-from_slice c.args.b.now cc)) (λ a x b q k. search (rules, tests))
    ∙ fold_zip_all eqb c.args.a.now c.args.b.now c.if-a-b.true)

pub returns-else-a-b : goal.returns-else-a-b
unfolding same_bytes
returns-else-a-b c = rw (ne_eqb _ _ c.if-a-b.false)
