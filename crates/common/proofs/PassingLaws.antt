-- How many tests pass before the first that does not: what that number is, a turn more of a loop that counts them, and
-- where the loop stops.
-- Assumes nothing.
use mathlib.Core.Path.{◌≡◌, refl}
use mathlib.Core.Bool.{Bool, true, false, cond, ◌&&◌}
use mathlib.Core.Logic.{⊎_elim}
use Prim.Native.Nat.{ℕ, zero, suc, ◌+◌, ◌≤◌, ◌<◌}
use native.Mathlib.Nat.{not-suc-le-zero, le_of_suc-le-suc, eq-or-lt_of_le}
use native.Mathlib.Numerals.{add-one}
use native.Mathlib.Omega.{arith}
use borrow.Author.Tests.{eqb-true, eqb-false, eq-eqb, ne_eqb}
use lib.Dec.{eqb}
use Rattle.common.proofs.TestLaws.{same_test}
use Rattle.common.specs.Lists.{passing}

-- at most n pass, each of them does, and where fewer than n do the next does not
pub record Passing (n : ℕ) (f : ℕ → Bool) (p : ℕ) : Type 0 where
  pub most : p ≤ n
  pub each : (i : ℕ) → i < p → f i ≡ true
  pub next : p < n → f p ≡ false

pub passing_is : (n : ℕ) (f : ℕ → Bool) → Passing n f (passing n f)
unfolding passing
passing_is zero f = record { most = omega arith; each = λ i h. absurd (omega arith); next = λ h. absurd (omega arith) }
passing_is (suc n) f = go (passing n f) (passing_is n f) (eqb (passing n f) n) refl (f n) refl
  where
    go : (p : ℕ) → Passing n f p → (t : Bool) → eqb p n ≡ t → (u : Bool) → f n ≡ u → Passing (suc n) f (cond (t && u) (suc n) p)
    go p s true e true q =
        let e' : p ≡ n = eqb-true p n e in
        record {
          most = omega arith;
          each = λ i h. ⊎_elim (λ (l : i ≡ n). rw l q) (λ (l : i < n). s.each i (omega arith)) (eq-or-lt_of_le (omega arith));
          next = λ h. absurd (omega arith);
        }
    go p s true e false q = let e' : p ≡ n = eqb-true p n e in record { most = omega (arith, s.most); each = s.each; next = λ h. rw e' q }
    go p s false e u q =
        record { most = omega (arith, s.most); each = s.each; next = λ h. s.next (omega (arith, s.most, eqb-false p n e)) }

-- the first n pass, and so does the next
pub passing_more : (f : ℕ → Bool) (n : ℕ) → passing n f ≡ n → f n ≡ true → passing (n + 1) f ≡ n + 1
unfolding passing
passing_more f n p t = rw (add-one, p, eq-eqb n n refl, t)

-- the first n of m pass and the next does not
pub passing_stop : (f : ℕ → Bool) (n m : ℕ) → n < m → passing n f ≡ n → f n ≡ false → passing m f ≡ n
unfolding passing
passing_stop f n zero h p t = absurd (not-suc-le-zero h)
passing_stop f n (suc m) h p t =
    ⊎_elim
    (λ (e : n ≡ m). rw (← e, p, eq-eqb n n refl, t))
    (λ (l : n < m). rw (passing_stop f n m l p t, ne_eqb n m (λ (e : n ≡ m). omega arith)))
    (eq-or-lt_of_le (le_of_suc-le-suc h))

-- where each passes, n pass
pub passing-all : (n : ℕ) (f : ℕ → Bool) → ((i : ℕ) → i < n → f i ≡ true) → passing n f ≡ n
unfolding passing
passing-all zero f h = refl
passing-all (suc n) f h = rw (passing-all n f (λ i l. h i (omega arith)), eq-eqb n n refl, h n (omega arith))

-- two counts are the same where those one higher are
pub eqb-suc : (m n : ℕ) → eqb (suc m) (suc n) ≡ eqb m n
eqb-suc m n =
    same_test (eqb (suc m) (suc n)) (eqb m n)
    (λ e. let s = eqb-true (suc m) (suc n) e in eq-eqb m n (omega arith)) (λ e. let s = eqb-true m n e in eq-eqb (suc m) (suc n) (omega arith))

-- the first passes, and how many do after it; or it does not
pub passing_front : (n : ℕ) (f : ℕ → Bool) → passing (suc n) f ≡ cond (f 0) (suc (passing n (λ i. f (suc i)))) 0
unfolding passing
passing_front zero f = refl
passing_front (suc n) f = by (passing (suc n) f) (passing n (λ i. f (suc i))) (f 0) (passing_front n f)
  where
    later : (b : Bool) (m q : ℕ) → cond b (suc m) (suc q) ≡ suc (cond b m q)
    later true m q = refl
    later false m q = refl

    by : (p q : ℕ) (b : Bool) → p ≡ cond b (suc q) 0
        → cond (eqb p (suc n) && f (suc n)) (suc (suc n)) p ≡ cond b (suc (cond (eqb q n && f (suc n)) (suc n) q)) 0
    by p q true e = rw (e, eqb-suc q n) (later (eqb q n && f (suc n)) (suc n) q)
    by p q false e = rw (e, ne_eqb 0 (suc n) (λ h. omega arith))
