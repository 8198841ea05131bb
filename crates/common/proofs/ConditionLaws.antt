-- Lists of conditions with their numbers: what is known where none fits, and which number is not the answer; and what
-- an answer by one test says.
-- Assumes nothing.
use mathlib.Core.Path.{◌≡◌, refl, sym, ap}
use mathlib.Core.Bool.{Bool, true, false, cond, not, ◌&&◌, ◌||◌}
use mathlib.Core.List.{List, [], ◌∷◌, ◌++◌}
use Prim.Native.Nat.{ℕ, suc}
use native.Mathlib.Omega.{arith}
use lib.Dec.{eqb}
use borrow.Author.Tests.{eqb-false, not-true}
use Rattle.common.specs.Refusal.{refusal_of}
use Rattle.common.proofs.TestLaws.{and_left, and_right, or_left, or_right}

-- no condition of the list fits
abbrev pub Clear : List (ℕ × Bool) → Type 0
Clear [] = Unit
Clear (r ∷ rs) = (r.1 ≡ false) × Clear rs

-- none of them has the number 0
abbrev pub numbered : List (ℕ × Bool) → Bool
numbered [] = true
numbered (r ∷ rs) = not (eqb r.0 0) && numbered rs

-- a call that is not refused
pub none_fit : (rs : List (ℕ × Bool)) → numbered rs ≡ true → refusal_of rs ≡ 0 → Clear rs
none_fit [] n e = tt
none_fit ((k, true) ∷ rs) n e = absurd (eqb-false k 0 (not-true (eqb k 0) (and_left (not (eqb k 0)) (numbered rs) n)) e)
none_fit ((k, false) ∷ rs) n e = (refl, none_fit rs (and_right (not (eqb k 0)) (numbered rs) n) e)

-- conditions after others: the number is that of the first list where one of it fits, else that of the second
pub refusal_append : (rs us : List (ℕ × Bool)) → numbered rs ≡ true → refusal_of (rs ++ us) ≡ cond (eqb (refusal_of rs) 0) (refusal_of us) (refusal_of rs)
refusal_append [] us n = refl
refusal_append ((k, true) ∷ rs) us n = rw (not-true (eqb k 0) (and_left (not (eqb k 0)) (numbered rs) n))
refusal_append ((k, false) ∷ rs) us n = refusal_append rs us (and_right (not (eqb k 0)) (numbered rs) n)

-- a number is one of the list's, or 0
abbrev pub names : ℕ → List (ℕ × Bool) → Bool
names k [] = eqb 0 k
names k (r ∷ rs) = eqb r.0 k || names k rs

-- a number that is none of these is not the answer
pub not_named : (k : ℕ) (rs : List (ℕ × Bool)) → names k rs ≡ false → refusal_of rs ≡ k → ⊥
not_named k [] n e = eqb-false 0 k n e
not_named k ((j, true) ∷ rs) n e = eqb-false j k (or_left (eqb j k) (names k rs) n) e
not_named k ((j, false) ∷ rs) n e = not_named k rs (or_right (eqb j k) (names k rs) n) e

-- ---- an answer by one test: 0 and a value, or another number and nothing (0)

pub accepted_by : (m : ℕ) (b : Bool) (v x : ℕ) → ◌≡◌ {A = ℕ × ℕ} (0, x) (cond b (0, v) (suc m, 0)) → (b ≡ true) × (v ≡ x)
accepted_by m true v x e = (refl, sym (ap (λ (y : ℕ × ℕ). y.1) e))
accepted_by m false v x e = absurd (omega (arith, ap (λ (y : ℕ × ℕ). y.0) e))

pub refused_by_lem : (m : ℕ) (b : Bool) (v : ℕ) → ◌≡◌ {A = ℕ × ℕ} (suc m, 0) (cond b (0, v) (suc m, 0)) → b ≡ false
refused_by_lem m true v e = absurd (omega (arith, ap (λ (y : ℕ × ℕ). y.0) e))
refused_by_lem m false v e = refl
