-- Dates (document 01, section Objects): "Field 35 is eight ASCII digits YYYYMMDD, a real Gregorian date, year 0001 to
-- 9999."
-- Assumes nothing.
use mathlib.Core.Path.{refl}
use Rattle.std.specs.Prelude.{◌≡◌, Bool, false, cond, not, ◌&&◌, ◌||◌, List, ℕ, zero, suc, ◌+◌, ◌/◌, ◌%◌, eqb, leb, length, Result}
use Rattle.common.specs.Lists.{all}
use Rattle.common.specs.Refusal.{answer_in}
use Rattle.common.specs.Decimal.{is_digit_at, spelled}
use Rattle.card.specs.declared.date.UnrealDate.{UnrealDate}

-- ---- the Gregorian calendar

-- Every fourth year is a leap year, but of the full centuries only every fourth.
abbrev pub leap_year : ℕ → Bool
leap_year y = eqb (y % 4) 0 && (not (eqb (y % 100) 0) || eqb (y % 400) 0)

-- The days of month m in the year y.
unfoldable pub days_in : ℕ → ℕ → ℕ
days_in y m = cond (eqb m 2) (cond (leap_year y) 29 28) (cond (eqb m 4 || eqb m 6 || eqb m 9 || eqb m 11) 30 31)

-- The number n is YYYYMMDD of a real date, year 0001 to 9999.
unfoldable pub real_date : ℕ → Bool
real_date n =
    let y = n / 10000 in
    let m = n / 100 % 100 in
    let d = n % 100 in
    leb 1 y && leb y 9999 && leb 1 m && leb m 12 && leb 1 d && leb d (days_in y m)

-- ---- field 35

-- "eight ASCII digits YYYYMMDD"
abbrev pub date_digits : ℕ
date_digits = 8

-- The bytes s are a real date.
unfoldable pub good_date : List ℕ → Bool
good_date s = eqb (length s) date_digits && all date_digits (is_digit_at s) && real_date (spelled date_digits s)

-- "date ill-formed, 22"
abbrev pub ill_formed_date : ℕ
ill_formed_date = 22

-- Cause 0 and the number that they spell, or that cause and no number (0).
unfoldable pub date_of : List ℕ → ℕ × ℕ
date_of s = cond (good_date s) (0, spelled date_digits s) (ill_formed_date, 0)

-- The answer of the code: document 01's cause of its error, and the number beside it.
abbrev pub date_number : UnrealDate → ℕ
date_number e = ill_formed_date

pub date_never_zero : (e : UnrealDate) → eqb (date_number e) 0 ≡ false
date_never_zero e = refl

abbrev pub date_answer : Result ℕ UnrealDate → ℕ × ℕ
date_answer r = answer_in date_number 0 r

-- ---- the order of days

-- The days of the years before the year y, and of the months before month m in the year y. Both are counted from 0, so
-- that a year 0 and a month 0 are in every count: they add the same to each.
unfoldable pub days_to_year : ℕ → ℕ
days_to_year zero = 0
days_to_year (suc y) = days_to_year y + cond (leap_year y) 366 365

unfoldable pub days_to_month : ℕ → ℕ → ℕ
days_to_month y zero = 0
days_to_month y (suc m) = days_to_month y m + days_in y m

-- The day of the date n = YYYYMMDD, counted on from one fixed day.
unfoldable pub day_of : ℕ → ℕ
day_of n = days_to_year (n / 10000) + days_to_month (n / 10000) (n / 100 % 100) + n % 100
