-- `card::object::part_of` meets its contract: the place of the row with the tag is that of its part. Assumes nothing.
use mathlib.Core.Path.{◌≡◌, sym}
use mathlib.Core.Bool.{cond}
use Prim.Native.Nat.{ℕ, ◌<◌, ◌≤◌}
use native.Mathlib.Omega.{arith}
use borrow.Author.Tests.{tests}
use lib.Dec.{eqb, ltb}
use lib.ListN.{length}
use Rattle.std.specs.Prelude.{Option, Some, None}
use Rattle.std.proofs.Common.{rules}
use Rattle.std.proofs.lemmas.Iterator.{YieldsList-from_slice}
use Rattle.std.proofs.lemmas.Iterator.Search.{position_from_yields_List}
use Rattle.card.specs.Object.{row_tag, rows_of}
use Rattle.card.specs.declared.object.Row.{Row}
use Rattle.card.proofs.FieldLaws.{few_rows, place_of, place_is, part_at}
use Rattle.card.proofs.object.part_of.Goals as goal
use Rattle.card.proofs.object.part_of.Goals.{After-position}

-- what `position` gives, in the definition's words
place : (c : goal.After-position) → let n = place_of (rows_of c.args.kind) c.args.tag in c.position.result ≡ cond (ltb n (length (rows_of c.args.kind))) (Some n) None
place c =
    rw (place_is (rows_of c.args.kind) c.args.tag, ← c.rows_of.ensures)
    (position_from_yields_List (λ (r : Row). eqb (row_tag r) c.args.tag) _ _ c.position.result c.position.ensures.ran (YieldsList-from_slice c.rows_of.result.now cc) (λ x b q k. search (rules, tests)))

-- by its two cases
found : (n m k : ℕ) (r : Option ℕ) → r ≡ cond (ltb n m) (Some n) None → r ≡ Some k → (k ≡ n) × (n < m)
found n m k r e h = (grind arith, grind arith)

missing : (n m : ℕ) (r : Option ℕ) → r ≡ cond (ltb n m) (Some n) None → r ≡ None → m ≤ n
missing n m r e h = grind arith

pub bounds-parts-i : goal.bounds-parts-i
bounds-parts-i c = let k = found _ _ c.in-Some.i _ (place (goal.at.bounds-parts-i c).After-position) c.in-Some.is in omega (arith, k.0, k.1, few_rows c.args.kind)

pub returns-in-Some : goal.returns-in-Some
returns-in-Some c =
    let k = found _ _ c.in-Some.i _ (place (goal.at.returns-in-Some c).After-position) c.in-Some.is in
    rw k.0 (sym ((part_at (rows_of c.args.kind) c.args.parts c.args.tag (omega (arith, few_rows c.args.kind))).0 k.1))

pub returns-in-None : goal.returns-in-None
returns-in-None c =
    let k = missing _ _ _ (place (goal.at.returns-in-None c).After-position) c.in-None.is in
    sym ((part_at (rows_of c.args.kind) c.args.parts c.args.tag (omega (arith, few_rows c.args.kind))).1 k)
