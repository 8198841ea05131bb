-- What a chain of iterators gives, by index: over the parts of an object, and over numbers with their places (for numbers
-- alone: common/proofs/FoldLaws.antt).
-- Assumes nothing.
use mathlib.Core.Path.{◌≡◌, refl, sym, ap, ◌∙◌}
use mathlib.Core.Bool.{Bool, ◌&&◌}
use mathlib.Core.List.{List, [], ◌∷◌}
use Prim.Native.Nat.{ℕ, ◌+◌}
use native.Mathlib.Omega.{arith}
use lib.ListN.{length, get_or}
use Rattle.std.specs.List.{list_all, enumerate_from}
use Rattle.std.proofs.lemmas.List.FromFn.{length-enumerate_from, get_or-enumerate_from}
use Rattle.common.specs.Lists.{all}
use Rattle.common.proofs.ListsLaws.{all_front, all_ext}

-- `s.iter().all(|x| p(x))`
pub list_all_at : {A : Type 0} (p : A → Bool) (d : A) (s : List A) → list_all p s ≡ all (length s) (λ i. p (get_or s i d))
unfolding all
list_all_at p d [] = refl
list_all_at p d (x ∷ s) = ap (λ b. p x && b) (list_all_at p d s) ∙ sym (all_front (length s) (λ i. p (get_or (x ∷ s) i d)))

-- `s.iter().enumerate().all(|(i, x)| p(i, x))`
pub list_all_enumerated : (p : ℕ → ℕ → Bool) (s : List ℕ) → list_all (λ (x : ℕ × ℕ). p x.0 x.1) (enumerate_from 0 s) ≡ all (length s) (λ i. p i (get_or s i 0))
list_all_enumerated p s =
    list_all_at (λ (x : ℕ × ℕ). p x.0 x.1) (0, 0) (enumerate_from 0 s)
    ∙ rw (length-enumerate_from 0 s) (all_ext (length s) (λ i h.
    let zero : 0 + i ≡ i = omega arith in
    ap (λ (x : ℕ × ℕ). p x.0 x.1) (get_or-enumerate_from 0 s i (0, 0) h ∙ ap (λ (j : ℕ). (j, get_or s i 0)) zero)))
