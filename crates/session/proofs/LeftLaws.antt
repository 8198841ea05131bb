-- How many answers may still be taken in a step, by the step that is reached and what is used up of `answers_most`.
-- Assumes nothing.
use mathlib.Core.Path.{◌≡◌, refl, ap, ◌∙◌}
use mathlib.Core.Bool.{Bool, true, false, cond}
use Prim.Native.Nat.{ℕ, ◌+◌, ◌-◌, ◌≤◌, ◌<◌}
use native.Mathlib.Omega.{arith}
use native.Mathlib.Nat.{le_antisymm}
use lib.Dec.{eqb, ltb}
use borrow.Author.Tests.{ltb-true, ltb-false, lt-ltb, le-ltb, eq-eqb, ne_eqb}
use Rattle.session.specs.Tables.{answers_most}
use Rattle.common.proofs.TestLaws.{either}

-- how many may still be taken in step k, at step s with u used up
unfoldable pub left : ℕ → ℕ → ℕ → ℕ → ℕ
left mode k s u = cond (ltb k s) 0 (cond (ltb s k) (answers_most mode k) (answers_most mode k - u))

pub left_most : (mode k s u : ℕ) → left mode k s u ≤ answers_most mode k
unfolding left
left_most mode k s u =
    either (λ (n : ℕ). n ≤ answers_most mode k) (ltb k s) (omega arith) (either (λ (n : ℕ). n ≤ answers_most mode k) (ltb s k) (omega arith) (omega arith))

left_past : (mode k s u : ℕ) → k < s → left mode k s u ≡ 0
unfolding left
left_past mode k s u h = rw (lt-ltb k s h)

left_before : (mode k s u : ℕ) → s < k → left mode k s u ≡ answers_most mode k
unfolding left
left_before mode k s u h = rw (le-ltb k s (omega arith), lt-ltb s k h)

left_at : (mode k s u : ℕ) → s ≡ k → left mode k s u ≡ answers_most mode k - u
unfolding left
left_at mode k s u h = rw (le-ltb k s (omega arith), le-ltb s k (omega arith))

-- an answer that is taken in step s uses some of it up, or leads to a later step
pub data Onward (mode s u t v : ℕ) : Type 0 where
  same : t ≡ s → u < v → v ≤ answers_most mode s → Onward mode s u t v
  later : s < t → u < answers_most mode s → Onward mode s u t v

-- so that one fewer is left
pub left_falls : (mode k s u t v : ℕ) → Onward mode s u t v → cond (eqb s k) 1 0 + left mode k t v ≤ left mode k s u
left_falls mode k s u t v o = go (ltb k s) (ltb s k) refl refl o
  where
    go : (x y : Bool) → ltb k s ≡ x → ltb s k ≡ y → Onward mode s u t v → cond (eqb s k) 1 0 + left mode k t v ≤ left mode k s u
    go true y p q (Onward.same e l m) =
        let h = ltb-true k s p in
        rw (left_past mode k s u h, left_past mode k t v (omega arith), ne_eqb s k (λ z. omega arith)) (omega arith)
    go true y p q (Onward.later l m) =
        let h = ltb-true k s p in
        rw (left_past mode k s u h, left_past mode k t v (omega arith), ne_eqb s k (λ z. omega arith)) (omega arith)
    go false true p q a =
        let h = ltb-true s k q in
        let most = left_most mode k t v in
        rw (left_before mode k s u h, ne_eqb s k (λ z. omega arith)) (omega arith)
    go false false p q (Onward.same e l m) =
        let h : s ≡ k = le_antisymm (ltb-false k s p) (ltb-false s k q) in
        let z : answers_most mode s ≡ answers_most mode k = ap (answers_most mode) h in
        rw (left_at mode k s u h, left_at mode k t v (e ∙ h), eq-eqb s k h) (omega arith)
    go false false p q (Onward.later l m) =
        let h : s ≡ k = le_antisymm (ltb-false k s p) (ltb-false s k q) in
        let z : answers_most mode s ≡ answers_most mode k = ap (answers_most mode) h in
        rw (left_at mode k s u h, left_past mode k t v (omega arith), eq-eqb s k h) (omega arith)
