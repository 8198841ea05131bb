-- The table of names: what its rows from a place on give.
-- Assumes nothing.
use mathlib.Core.Path.{◌≡◌, ap, ◌∙◌}
use mathlib.Core.Bool.{Bool, true, false, cond}
use mathlib.Core.List.{List}
use Prim.Native.Nat.{ℕ, ◌+◌, ◌≤◌, ◌<◌}
use denote.Bor.{Bor}
use lib.ListN.{length, get_or, drop, drop_of_length-le}
use Rattle.std.specs.Prelude.{Option, Some, None, map}
use Rattle.std.proofs.lemmas.List.{drop_more}
use Rattle.common.specs.Lists.{same_bytes}
use Rattle.vectors.specs.Answer.{call_among}
use Rattle.vectors.specs.declared.answer.VectorCall.{VectorCall}

-- a row as the code has it: the name is lent
abbrev pub Row : Type 0
Row = Bor (List ℕ) × VectorCall

-- the call of a name by such rows
abbrev pub among : List Row → List ℕ → Option VectorCall
among rows name = call_among (map (λ r. (r.0.now, r.1)) rows) name

-- row i has the name
pub row_has : (rows : List Row) (i : ℕ) (name : List ℕ) (d : Row) → i < length rows → same_bytes name (get_or rows i d).0.now ≡ true → among (drop i rows) name ≡ Some (get_or rows i d).1
unfolding call_among
row_has rows i name d l e =
    ap (λ (r : List Row). among r name) (drop_more rows i d l)
    ∙ ap (λ (b : Bool). cond b (Some (get_or rows i d).1) (among (drop (i + 1) rows) name)) e

-- it has not
pub row_passed : (rows : List Row) (i : ℕ) (name : List ℕ) (d : Row) → i < length rows → same_bytes name (get_or rows i d).0.now ≡ false → among (drop i rows) name ≡ among (drop (i + 1) rows) name
unfolding call_among
row_passed rows i name d l e =
    ap (λ (r : List Row). among r name) (drop_more rows i d l)
    ∙ ap (λ (b : Bool). cond b (Some (get_or rows i d).1) (among (drop (i + 1) rows) name)) e

-- no row is left
pub rows_end : (rows : List Row) (i : ℕ) (name : List ℕ) → length rows ≤ i → among (drop i rows) name ≡ None
unfolding call_among
rows_end rows i name l = ap (λ (r : List Row). among r name) (drop_of_length-le rows l)
