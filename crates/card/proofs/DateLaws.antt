-- The laws of dates: what the loop of `read` keeps, an accepted date is a real one, and for real dates the order of the
-- numbers is the order of the days.
-- Assumes nothing.
use mathlib.Core.Path.{◌≡◌, refl, sym, ap}
use mathlib.Core.Bool.{Bool, true, false, cond, ◌&&◌, and-eq-true_iff}
use mathlib.Core.List.{List}
use mathlib.Core.Logic.{⊎_elim}
use Prim.Native.Nat.{ℕ, zero, suc, ◌+◌, ◌*◌, ◌/◌, ◌%◌, ◌≤◌, ◌<◌}
use native.Mathlib.Nat.{le_refl, le_trans, le_of_suc-le-suc, eq-or-lt_of_le, div-div-eq-div-mul, mod-lt}
use native.Mathlib.Omega.{arith}
use borrow.Author.Tests.{eq-eqb, ne_eqb, leb-true, ltb-true, ltb-false}
use lib.Dec.{eqb, leb, ltb, lit<}
use lib.ListN.{length}
use Rattle.common.specs.Lists.{all}
use Rattle.common.specs.Decimal.{is_digit_at, spelled}
use Rattle.card.specs.Date.{leap_year, days_in, real_date, good_date, date_of, days_to_year, days_to_month, day_of}

-- ---- what the loop of `read` keeps

-- what was read of eight bytes decides
pub date_is : (s : List ℕ) {i n : ℕ} {ok r : Bool} → length s ≡ 8 → i ≡ 8 → n ≡ spelled i s → ok ≡ all i (is_digit_at s) → r ≡ real_date n
    → date_of s ≡ cond (ok && r) (0, n) (22, 0)
unfolding date_of good_date
date_is s el ei en eo er = rw (er, eo, en, ei, eq-eqb _ _ el)

-- another number of bytes is no date
pub not_eight : (s : List ℕ) → (length s ≡ 8 → ⊥) → date_of s ≡ (22, 0)
unfolding date_of good_date
not_eight s h = rw (ne_eqb _ _ h)

-- ---- an accepted date is a real one

-- its number is a real date
good_real : (s : List ℕ) → good_date s ≡ true → real_date (spelled 8 s) ≡ true
unfolding good_date
good_real s p = ((and-eq-true_iff (eqb (length s) 8 && all 8 (is_digit_at s)) (real_date (spelled 8 s))).0 p).1

-- an accepted date is a real one: cause 22 is not 0
pub date_real : (s : List ℕ) → (date_of s).0 ≡ 0 → real_date (date_of s).1 ≡ true
unfolding date_of
date_real s p = go (good_date s) refl
  where
    go : (b : Bool) → good_date s ≡ b → real_date (date_of s).1 ≡ true
    go true q = rw q (good_real s q)
    go false q = let no_cause : ◌≡◌ {A = ℕ} 22 0 = rw q at p in absurd (omega arith)

-- the number 0 of a refused date is no real date
pub zero_unreal : real_date 0 ≡ false
unfolding real_date
zero_unreal = refl

-- ---- a year and its months

-- what does not fall from one number to the next is in order
grows : (f : ℕ → ℕ) → ((n : ℕ) → f n ≤ f (suc n)) → (m n : ℕ) → m ≤ n → f m ≤ f n
grows f h m zero l = let e : m ≡ 0 = omega arith in rw e (le_refl (f 0))
grows f h m (suc n) l = ⊎_elim (λ e. rw e (le_refl (f (suc n)))) (λ k. le_trans (grows f h m n (le_of_suc-le-suc k)) (h n)) (eq-or-lt_of_le l)

-- the days before month m of the year y do not fall with m
months : (y m n : ℕ) → m ≤ n → days_to_month y m ≤ days_to_month y n
unfolding days_to_month
months y = grows (days_to_month y) (λ m. omega arith)

-- and the days before the year y do not fall with y
years : (y z : ℕ) → y ≤ z → days_to_year y ≤ days_to_year z
unfolding days_to_year
years = grows days_to_year (λ y. omega arith)

-- a year has 365 or 366 days (and the 31 of a month 0, which stands before every year's first month)
twelve : (leap : Bool) → 31 + 31 + cond leap 29 28 + 31 + 30 + 31 + 30 + 31 + 31 + 30 + 31 + 30 + 31 ≡ 31 + cond leap 366 365
twelve true = refl
twelve false = refl

-- the months of a year together
year_days : (y : ℕ) → days_to_month y 13 ≡ 31 + cond (leap_year y) 366 365
unfolding days_to_month days_in
year_days y = twelve (leap_year y)

-- the first month of each year begins after those 31
first_month : (y : ℕ) → days_to_month y 1 ≡ 31
unfolding days_to_month days_in
first_month y = refl

-- ---- the order of days

-- y, m and d are the year, month and day of a real date: the month and the day are there, and the day has two digits
record Day (y m d : ℕ) : Type 0 where
  first : 1 ≤ m
  last : m ≤ 12
  some : 1 ≤ d
  fits : d ≤ days_in y m
  two : d < 100

-- a day lies before the first of the next month
month_end : {y m d : ℕ} → Day y m d → days_to_month y m + d ≤ days_to_month y (suc m)
unfolding days_to_month
month_end p = omega arith

-- and before the first of the next year
year_end : {y m d : ℕ} → Day y m d → days_to_year y + days_to_month y m + d ≤ days_to_year (suc y) + 31
unfolding days_to_year
year_end {y} {m} p = omega (arith, month_end p, months y (suc m) 13 (omega arith), year_days y)

-- a later day of two in one year
later_month : {y m d n e : ℕ} → Day y m d → Day y n e → m * 100 + d < n * 100 + e → days_to_month y m + d < days_to_month y n + e
later_month {y} {m} {n = n} p q l =
    ⊎_elim (λ (k : m ≡ n). rw k (omega arith)) (λ (k : m < n). omega (arith, month_end p, months y (suc m) n k)) (eq-or-lt_of_le (omega arith))

-- and of any two
later : {y m d z n e : ℕ} → Day y m d → Day z n e → y * 10000 + (m * 100 + d) < z * 10000 + (n * 100 + e)
    → days_to_year y + days_to_month y m + d < days_to_year z + days_to_month z n + e
later {y} {m} {d} {z} {n} {e} p q l =
    ⊎_elim same (λ (k : y < z). omega (arith, year_end p, years (suc y) z k, first_month z, months z 1 n q.first)) (eq-or-lt_of_le (omega arith))
  where
    same : y ≡ z → days_to_year y + days_to_month y m + d < days_to_year z + days_to_month z n + e
    same k = rw (← k) (omega (arith, later_month p (rw (← k) at q) (omega arith)))

-- a number is made of its year, month and day
number_parts : (n : ℕ) → n ≡ n / 10000 * 10000 + (n / 100 % 100 * 100 + n % 100)
number_parts n = let e : n / 10000 ≡ n / 100 / 100 = sym (div-div-eq-div-mul n 100 100) in rw e (omega arith)

-- and a real date is made of such
day_parts : (n : ℕ) → real_date n ≡ true → Day (n / 10000) (n / 100 % 100) (n % 100)
unfolding real_date
day_parts n p =
    let y = n / 10000 in
    let m = n / 100 % 100 in
    let d = n % 100 in
    let a = leb 1 y && leb y 9999 in
    let p₁ = (and-eq-true_iff (a && leb 1 m && leb m 12 && leb 1 d) (leb d (days_in y m))).0 p in
    let p₂ = (and-eq-true_iff (a && leb 1 m && leb m 12) (leb 1 d)).0 p₁.0 in
    let p₃ = (and-eq-true_iff (a && leb 1 m) (leb m 12)).0 p₂.0 in
    let p₄ = (and-eq-true_iff a (leb 1 m)).0 p₃.0 in
    record {
      first = leb-true 1 m p₄.1;
      last = leb-true m 12 p₃.1;
      some = leb-true 1 d p₂.1;
      fits = leb-true d (days_in y m) p₁.1;
      two = mod-lt n (lit< tt);
    }

-- of two real dates the one with the greater number is the later day
pub day_order : (a b : ℕ) → real_date a ≡ true → real_date b ≡ true → a < b → day_of a < day_of b
unfolding day_of
day_order a b p q l = later (day_parts a p) (day_parts b q) (rw (number_parts a, number_parts b) at l)

-- a day that is not later has no greater number
back : (a b : ℕ) → real_date a ≡ true → real_date b ≡ true → day_of a ≤ day_of b → a ≤ b
back a b p q h = go (ltb b a) refl
  where
    go : (t : Bool) → ltb b a ≡ t → a ≤ b
    go true l = absurd (omega (arith, day_order b a q p (ltb-true b a l)))
    go false l = ltb-false b a l

-- the later day has the greater number
pub day_order_back : (a b : ℕ) → real_date a ≡ true → real_date b ≡ true → day_of a < day_of b → a < b
day_order_back a b p q h = ⊎_elim (λ (e : a ≡ b). absurd (omega (arith, ap day_of e))) (λ l. l) (eq-or-lt_of_le (back a b p q (omega arith)))

-- the same day is the same number
pub day_same : (a b : ℕ) → real_date a ≡ true → real_date b ≡ true → day_of a ≡ day_of b → a ≡ b
day_same a b p q e = omega (arith, back a b p q (omega arith), back b a q p (omega arith))
