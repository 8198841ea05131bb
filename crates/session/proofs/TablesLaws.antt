-- The tables of documents 01 and 02 value by value; the tags that a field call may ask for; and the lowest failed check.
-- Assumes nothing.
use mathlib.Core.Path.{◌≡◌, refl, ◌∙◌}
use mathlib.Core.Bool.{Bool, true, false, cond, not, ◌||◌}
use mathlib.Core.List.{List, [], ◌∷◌, ◌++◌, map}
use Prim.Native.Nat.{ℕ, suc, ◌+◌}
use native.Mathlib.Omega.{arith}
use Rattle.std.proofs.lemmas.Bool.Decides.{nat_tests}
use lib.Dec.{eqb}
use lib.ListN.{length, take, drop, replicate}
use Rattle.std.specs.Prelude.{Some, None, ltb}
use Rattle.std.specs.List.{position_or_len}
use Rattle.common.specs.Lists.{list_of, all}
use Rattle.card.specs.Object.{row_tag, end_tag, rows_of}
use Rattle.card.specs.declared.object.Kind.TheVariants.{Signed, Unsigned, Fingers, Picture}
use Rattle.session.specs.Tables.{before, since, mode_in_range, mode_opens, good_kind, needs, check_served, needed_at, needed_outcomes, step_after, kind_at, stamp_layout, failed, other_card, lowest_from, step1_tags, step2_tags}
use Rattle.session.specs.Ranges.{outcomes_in_range}

-- ---- the tables, value by value

-- the modes that open, of 0, 1, 4, 5, 6 and 7: 1 to 4 before request 7 of document 02, 1 to 6 since; and the kinds that there are, of 0, 1, 4, 5 and 6: 1 to 4, and 1 to 5
pub modes_open : (map (mode_opens before) (0 ∷ 1 ∷ 4 ∷ 5 ∷ 6 ∷ 7 ∷ []) ≡ false ∷ true ∷ true ∷ false ∷ false ∷ false ∷ [])
    × (map (mode_opens since) (0 ∷ 1 ∷ 4 ∷ 5 ∷ 6 ∷ 7 ∷ []) ≡ false ∷ true ∷ true ∷ true ∷ true ∷ false ∷ [])
modes_open = (refl, refl)

-- the modes in range, of the same: those of a session's range and of an opening that begins a history
pub modes_in_range : (map (mode_in_range before) (0 ∷ 1 ∷ 4 ∷ 5 ∷ 6 ∷ 7 ∷ []) ≡ false ∷ true ∷ true ∷ false ∷ false ∷ false ∷ [])
    × (map (mode_in_range since) (0 ∷ 1 ∷ 4 ∷ 5 ∷ 6 ∷ 7 ∷ []) ≡ false ∷ true ∷ true ∷ true ∷ true ∷ false ∷ [])
modes_in_range = (refl, refl)

pub good_kinds : (map (good_kind before) (0 ∷ 1 ∷ 4 ∷ 5 ∷ 6 ∷ []) ≡ false ∷ true ∷ true ∷ false ∷ false ∷ [])
    × (map (good_kind since) (0 ∷ 1 ∷ 4 ∷ 5 ∷ 6 ∷ []) ≡ false ∷ true ∷ true ∷ true ∷ false ∷ [])
good_kinds = (refl, refl)

-- the checks that kinds 1 to 5 serve
pub checks_by_kind : map check_served (1 ∷ 2 ∷ 3 ∷ 4 ∷ 5 ∷ []) ≡ 1 ∷ 2 ∷ 5 ∷ 6 ∷ 7 ∷ []
unfolding check_served
checks_by_kind = refl

-- what modes 1 to 6 begin with, check by check
pub checks_by_mode : map (needed_outcomes since) (1 ∷ 2 ∷ 3 ∷ 4 ∷ 5 ∷ 6 ∷ [])
    ≡ (1 ∷ 1 ∷ 1 ∷ 1 ∷ 0 ∷ 0 ∷ 0 ∷ []) ∷ (0 ∷ 0 ∷ 1 ∷ 1 ∷ 1 ∷ 0 ∷ 0 ∷ []) ∷ (1 ∷ 1 ∷ 1 ∷ 1 ∷ 0 ∷ 1 ∷ 0 ∷ []) ∷ (1 ∷ 1 ∷ 1 ∷ 1 ∷ 1 ∷ 1 ∷ 0 ∷ [])
    ∷ (1 ∷ 1 ∷ 1 ∷ 1 ∷ 0 ∷ 0 ∷ 1 ∷ []) ∷ (1 ∷ 1 ∷ 1 ∷ 1 ∷ 1 ∷ 0 ∷ 1 ∷ []) ∷ []
unfolding needed_outcomes needed_at needs list_of
checks_by_mode = refl

-- the step after step 1, and the objects of steps 1 and 2, in modes 1 to 6 (modes 1 and 2 have no step 2)
pub steps_by_mode : map (λ (mode : ℕ). step_after mode 1) (1 ∷ 2 ∷ 3 ∷ 4 ∷ 5 ∷ 6 ∷ []) ≡ 3 ∷ 3 ∷ 2 ∷ 2 ∷ 2 ∷ 2 ∷ []
steps_by_mode = refl

pub objects_by_mode : (map (λ (mode : ℕ). kind_at mode 1) (1 ∷ 2 ∷ 3 ∷ 4 ∷ 5 ∷ 6 ∷ []) ≡ Signed ∷ Unsigned ∷ Signed ∷ Signed ∷ Signed ∷ Signed ∷ [])
    × (map (λ (mode : ℕ). kind_at mode 2) (3 ∷ 4 ∷ 5 ∷ 6 ∷ []) ≡ Fingers ∷ Fingers ∷ Picture ∷ Picture ∷ [])
objects_by_mode = (refl, refl)

-- the outcomes stand in a stamp in the order of the checks, after the six bytes of the head
pub outcomes_in_place : take 7 (drop 6 (stamp_layout (replicate 6 0) (1 ∷ 2 ∷ 3 ∷ 4 ∷ 5 ∷ 6 ∷ 7 ∷ []) 0 [] 0)) ≡ 1 ∷ 2 ∷ 3 ∷ 4 ∷ 5 ∷ 6 ∷ 7 ∷ []
unfolding stamp_layout
outcomes_in_place = refl

-- an outcome above 4 is out of range, that of check 7 too
pub outcomes_to_four : (outcomes_in_range (replicate 7 4) ≡ true) × (outcomes_in_range (replicate 6 4 ++ (5 ∷ [])) ≡ false)
unfolding outcomes_in_range all
outcomes_to_four = (refl, refl)

-- ---- fields

-- a field call may ask for every field of an object but the last, FE; those of an unsigned object are the first seven of step 1's tags
pub signed_asked : map row_tag (rows_of Signed) ≡ step1_tags ++ (end_tag ∷ [])
unfolding rows_of
signed_asked = refl

pub unsigned_asked : map row_tag (rows_of Unsigned) ≡ take 7 step1_tags ++ (end_tag ∷ [])
unfolding rows_of
unsigned_asked = refl

pub fingers_asked : map row_tag (rows_of Fingers) ≡ step2_tags ++ (end_tag ∷ [])
unfolding rows_of
fingers_asked = refl

pub picture_asked : map row_tag (rows_of Picture) ≡ step2_tags ++ (end_tag ∷ [])
unfolding rows_of
picture_asked = refl

-- ---- the lowest failed check

-- the check failed, or on another card
abbrev pub fails : ℕ → Bool
fails v = eqb v failed || eqb v other_card

-- it is the first that fails, of those that are looked at
pub lowest_first : (c : ℕ) (o : List ℕ) → lowest_from c o ≡ cond (ltb (position_or_len fails o) (length o)) (position_or_len fails o + c) 0
unfolding lowest_from
lowest_first c [] = refl
lowest_first c (v ∷ o) = go (fails v) (lowest_first (suc c) o)
  where
    go : (b : Bool) → lowest_from (suc c) o ≡ cond (ltb (position_or_len fails o) (length o)) (position_or_len fails o + suc c) 0
        → cond b c (lowest_from (suc c) o) ≡ cond (ltb (cond (not b) (1 + position_or_len fails o) 0) (suc (length o))) (cond (not b) (1 + position_or_len fails o) 0 + c) 0
    go true e = grind (arith, nat_tests)
    go false e = e ∙ grind (arith, nat_tests)

-- what a search for it gives: its place, the first being 0, or nothing
pub lowest_found : (o : List ℕ) (i : ℕ) → cond (ltb (position_or_len fails o) (length o)) (Some (position_or_len fails o)) None ≡ Some i → i + 1 ≡ lowest_from 1 o
lowest_found o i e = rw (lowest_first 1 o) (go (position_or_len fails o) (ltb (position_or_len fails o) (length o)) e)
  where
    go : (n : ℕ) (b : Bool) → cond b (Some n) None ≡ Some i → i + 1 ≡ cond b (n + 1) 0
    go n true e = cc
    go n false e = cc

pub lowest_none : (o : List ℕ) → cond (ltb (position_or_len fails o) (length o)) (Some (position_or_len fails o)) None ≡ None → 0 ≡ lowest_from 1 o
lowest_none o e = rw (lowest_first 1 o) (go (position_or_len fails o) (ltb (position_or_len fails o) (length o)) e)
  where
    go : (n : ℕ) (b : Bool) → cond b (Some n) None ≡ None → 0 ≡ cond b (n + 1) 0
    go n true e = cc
    go n false e = refl
