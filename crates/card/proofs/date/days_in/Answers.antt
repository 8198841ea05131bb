-- `card::date::days_in` meets its contract: each return by the month. Assumes nothing.
use mathlib.Core.Path.{◌≡◌}
use Prim.Native.Nat.{ℕ}
use borrow.Author.Tests.{ne_eqb}
use native.Mathlib.Omega.{arith}
use Rattle.card.specs.Date.{days_in}
use Rattle.card.proofs.date.days_in.Goals as goal

pub returns-then-leap_year : goal.returns-then-leap_year
unfolding days_in
returns-then-leap_year c = rw (c.in-2.is, ← c.leap_year.ensures, c.if-leap_year.true)

pub returns-else-leap_year : goal.returns-else-leap_year
unfolding days_in
returns-else-leap_year c = rw (c.in-2.is, ← c.leap_year.ensures, c.if-leap_year.false)

pub returns-in-4 : goal.returns-in-4
unfolding days_in
returns-in-4 c = grind arith

-- no other month
others : (y m : ℕ) → (m ≡ 2 → ⊥) → (m ≡ 4 → ⊥) → (m ≡ 6 → ⊥) → (m ≡ 9 → ⊥) → (m ≡ 11 → ⊥) → 31 ≡ days_in y m
unfolding days_in
others y m a b d e f = simp (ne_eqb m 2 a, ne_eqb m 4 b, ne_eqb m 6 d, ne_eqb m 9 e, ne_eqb m 11 f)

pub returns-in_default : goal.returns-in_default
returns-in_default c = let h = c.in_default in others _ _ (λ k. grind arith) (λ k. grind arith) (λ k. grind arith) (λ k. grind arith) (λ k. grind arith)
