-- A number in a list: it is found exactly where it stands at some place, so that neither order nor repeats matter; and
-- what a loop over the places tells of it.
-- Assumes nothing.
use mathlib.Core.Path.{◌≡◌, refl, sym, ap, ◌∙◌}
use mathlib.Core.Bool.{Bool, true, false, not, ◌&&◌, ◌||◌, or-true}
use mathlib.Core.List.{List, [], ◌∷◌}
use Prim.Native.Nat.{ℕ, zero, suc, ◌<◌, zero-le, suc-le-suc}
use native.Mathlib.Nat.{not-suc-le-zero, le_of_suc-le-suc}
use borrow.Author.Tests.{eqb-true, eq-eqb}
use lib.Dec.{eqb}
use lib.ListN.{length, get_or}
use Rattle.common.specs.Lists.{all, is_in}
use Rattle.common.proofs.TestLaws.{clash, same_test}
use Rattle.common.proofs.ListsLaws.{all_front}

-- where the number stands
abbrev pub StandsIn : ℕ → List ℕ → Type 0
StandsIn x l = (i : ℕ) × (i < length l) × (get_or l i 0 ≡ x)

-- a number that stands at a place is found
pub in_at : (x : ℕ) (l : List ℕ) → StandsIn x l → is_in x l ≡ true
in_at x [] p = absurd (not-suc-le-zero p.1)
in_at x (y ∷ l) (zero, h, e) = rw (eq-eqb x y (sym e))
in_at x (y ∷ l) (suc i, h, e) = rw (in_at x l (i, le_of_suc-le-suc h, e)) (or-true (eqb x y))

-- one that is found stands at a place
pub in_where : (x : ℕ) (l : List ℕ) → is_in x l ≡ true → StandsIn x l
in_where x [] e = clash e
in_where x (y ∷ l) e = go (eqb x y) refl (λ h. in_where x l h) e
  where
    go : (b : Bool) → eqb x y ≡ b → (is_in x l ≡ true → StandsIn x l) → b || is_in x l ≡ true → StandsIn x (y ∷ l)
    go true q later h = (0, suc-le-suc zero-le, sym (eqb-true x y q))
    go false q later h = let p = later h in (suc p.0, suc-le-suc p.1, p.2)

-- two lists in which the number stands, or not, find it, or not
pub in_same : (x : ℕ) (l m : List ℕ) → (StandsIn x l → StandsIn x m) → (StandsIn x m → StandsIn x l) → is_in x l ≡ is_in x m
in_same x l m f g = same_test (is_in x l) (is_in x m) (λ p. in_at x m (f (in_where x l p))) (λ p. in_at x l (g (in_where x m p)))

-- it is found exactly where not every place has another number
pub in_all : (x : ℕ) (l : List ℕ) → not (all (length l) (λ i. not (eqb x (get_or l i 0)))) ≡ is_in x l
unfolding all
in_all x [] = refl
in_all x (y ∷ l) = rw (all_front (length l) (λ i. not (eqb x (get_or (y ∷ l) i 0)))) (both (eqb x y) (all (length l) (λ i. not (eqb x (get_or l i 0)))) ∙ ap (λ (b : Bool). eqb x y || b) (in_all x l))
  where
    both : (a b : Bool) → not (not a && b) ≡ a || not b
    both true b = refl
    both false b = refl
