-- Outcomes: the places of the checks that verdicts serve, and outcomes that stay in range.
-- Assumes nothing.
use mathlib.Core.Path.{◌≡◌, refl, sym, ap, ◌∙◌}
use mathlib.Core.Bool.{true, cond}
use mathlib.Core.List.{List, [], ◌∷◌}
use Prim.Native.Nat.{ℕ, zero, suc, ◌+◌, ◌-◌, ◌<◌}
use native.Mathlib.Omega.{arith}
use borrow.Author.Tests.{leb-true}
use lib.Dec.{eqb, leb}
use lib.ListN.{get_or, set}
use Rattle.common.specs.Lists.{same_bytes, is_in}
use Rattle.common.proofs.ListsLaws.{all_at, all_of}
use Rattle.session.specs.Tables.{since, checks, good_kind, check_served, verdict_outcome, expiry_outcome, list_outcome}
use Rattle.session.specs.Ranges.{outcomes_in_range}
use Rattle.common.proofs.TestLaws.{clash, and_right, either}

-- ---- the places of the checks that verdicts serve

-- what holds of the kinds 1 to 5
pub each_kind : (P : ℕ → Type 0) → P 1 → P 2 → P 3 → P 4 → P 5 → (kind : ℕ) → good_kind since kind ≡ true → P kind
each_kind P a b c d f zero e = clash e
each_kind P a b c d f (suc zero) e = a
each_kind P a b c d f (suc (suc zero)) e = b
each_kind P a b c d f (suc (suc (suc zero))) e = c
each_kind P a b c d f (suc (suc (suc (suc zero)))) e = d
each_kind P a b c d f (suc (suc (suc (suc (suc zero))))) e = f
each_kind P a b c d f (suc (suc (suc (suc (suc (suc n)))))) e =
    absurd (let l = leb-true (suc (suc (suc (suc (suc (suc n)))))) 5 (and_right (leb 1 (suc (suc (suc (suc (suc (suc n))))))) _ e) in omega arith)

abbrev pub place_of : ℕ → ℕ
place_of kind = check_served kind - 1

-- the kind whose check has a place
abbrev kind_of : ℕ → ℕ
kind_of place = cond (eqb place 0) 1 (cond (eqb place 1) 2 (cond (eqb place 4) 3 (cond (eqb place 5) 4 5)))

pub record Placed (kind : ℕ) : Type 0 where
  pub low : place_of kind < checks
  pub next : place_of kind + 1 ≡ check_served kind
  pub not_expiry : ◌≡◌ {A = ℕ} 2 (place_of kind) → ⊥
  pub not_list : ◌≡◌ {A = ℕ} 3 (place_of kind) → ⊥
  pub back : kind_of (place_of kind) ≡ kind

pub placed : (kind : ℕ) → good_kind since kind ≡ true → Placed kind
unfolding check_served
placed =
    each_kind Placed (record { low = omega arith; next = refl; not_expiry = λ e. omega arith; not_list = λ e. omega arith; back = refl })
    (record { low = omega arith; next = refl; not_expiry = λ e. omega arith; not_list = λ e. omega arith; back = refl })
    (record { low = omega arith; next = refl; not_expiry = λ e. omega arith; not_list = λ e. omega arith; back = refl })
    (record { low = omega arith; next = refl; not_expiry = λ e. omega arith; not_list = λ e. omega arith; back = refl })
    (record { low = omega arith; next = refl; not_expiry = λ e. omega arith; not_list = λ e. omega arith; back = refl })

-- two kinds have two places
pub places_apart : (k l : ℕ) → good_kind since k ≡ true → good_kind since l ≡ true → place_of k ≡ place_of l → k ≡ l
places_apart k l p q e = sym (placed k p).back ∙ ap kind_of e ∙ (placed l q).back

-- ---- outcomes are 0 to 4

abbrev Small : ℕ → Type 0
Small v = leb v 4 ≡ true

pub verdict_small : (own : List ℕ) (yes_no : ℕ) (fascn : List ℕ) → leb (verdict_outcome own yes_no fascn) 4 ≡ true
unfolding verdict_outcome
verdict_small own yes_no fascn = either Small (eqb yes_no 0) {x = 3} refl (either Small (same_bytes fascn own) {x = 2} {y = 4} refl refl)

-- outcomes stay in range where one that is in range is set
pub set-in_range : (o : List ℕ) (p v : ℕ) → leb v 4 ≡ true → outcomes_in_range o ≡ true → outcomes_in_range (set o p v) ≡ true
unfolding outcomes_in_range
set-in_range o p v s e = all_of (λ i. leb (get_or (set o p v) i 0) 4) checks (λ i l. go o p i (all_at (λ i. leb (get_or o i 0) 4) checks e i l))
  where
    go : (o : List ℕ) (p i : ℕ) → leb (get_or o i 0) 4 ≡ true → leb (get_or (set o p v) i 0) 4 ≡ true
    go [] p i h = h
    go (x ∷ o) zero zero h = s
    go (x ∷ o) zero (suc i) h = h
    go (x ∷ o) (suc p) zero h = h
    go (x ∷ o) (suc p) (suc i) h = go o p i h

pub expiry_small : (date expiry : ℕ) → leb (expiry_outcome date expiry) 4 ≡ true
unfolding expiry_outcome
expiry_small date expiry = either Small (leb date expiry) {x = 2} {y = 3} refl refl

pub list_small : (key : ℕ) (cancelled : List ℕ) → leb (list_outcome key cancelled) 4 ≡ true
unfolding list_outcome
list_small key cancelled = either Small (is_in key cancelled) {x = 3} {y = 2} refl refl
