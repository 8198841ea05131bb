-- `text::form::between` meets its contract: a fold over the three adds the test of each place. Assumes nothing.
use mathlib.Core.Path.{◌∙◌}
use mathlib.Core.Bool.{◌&&◌}
use Prim.Native.Nat.{ℕ}
use borrow.Author.Tests.{eqb-true, tests}
use lib.Dec.{eqb, leb}
use lib.ListN.{length}
use Rattle.std.proofs.Common.{rules}
use Rattle.std.proofs.lemmas.Iterator.{YieldsList-from_slice, YieldsList-from_zip}
use Rattle.common.proofs.TestLaws.{and_parts}
use Rattle.common.proofs.FoldLaws.{fold_from_yields_List, fold_zip_three}
use Rattle.text.specs.Form.{between, between_at}
use Rattle.text.proofs.form.between.Goals as goal

pub returns-then-as_long : goal.returns-then-as_long
unfolding between between_at
returns-then-as_long c =
    let sizes = and_parts (eqb (length c.args.s.now) (length c.args.lowest.now)) (eqb (length c.args.s.now) (length c.args.highest.now)) c.if-as_long.true in
    rw (sizes.0, sizes.1)
    (fold_from_yields_List (λ ok (p : (ℕ × ℕ) × ℕ). ok && (leb p.0.1 p.0.0 && leb p.0.0 p.1)) _ _ _ c.fold.ensures.ran
    (YieldsList-from_zip (YieldsList-from_zip (YieldsList-from_slice c.args.s.now cc) (YieldsList-from_slice c.args.lowest.now cc)) (YieldsList-from_slice c.args.highest.now cc))
    (λ a x b q k. search (rules, tests))
    ∙ fold_zip_three (λ x low high. leb low x && leb x high) c.args.s.now c.args.lowest.now c.args.highest.now (eqb-true _ _ sizes.0) (eqb-true _ _ sizes.1))

pub returns-else-as_long : goal.returns-else-as_long
unfolding between
returns-else-as_long c = rw c.if-as_long.false
