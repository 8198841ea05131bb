-- The Card Identification Number (document 02, request 2): "A CIN is 1 to 10 ASCII decimal digits read as a number";
-- and the entry of one.
-- Assumes nothing.
use Rattle.std.specs.Prelude.{◌≡◌, refl, Bool, false, cond, ◌&&◌, List, ℕ, eqb, leb, length, Result, Ok, Err}
use Rattle.common.specs.Lists.{all}
use Rattle.common.specs.Decimal.{is_digit_at, spelled}
use Rattle.common.specs.Refusal.{number_in}
use Rattle.ccl.specs.declared.cin.Cin.{Cin}
use Rattle.ccl.specs.declared.cin.BadEntry.{BadEntry}

-- ---- digits and number

abbrev pub longest_cin : ℕ
longest_cin = 10

-- 1 to 10 ASCII digits; leading zeros are digits as others are.
unfoldable pub cin_digits : List ℕ → Bool
cin_digits d = leb 1 (length d) && leb (length d) longest_cin && all (length d) (is_digit_at d)

-- Document 02's CIN: the number that they spell.
unfoldable pub cin_of : List ℕ → ℕ
cin_of d = spelled (length d) d

-- ---- the entry

-- "23 where the entry is empty, over 10 digits or holds a non-digit"
abbrev pub bad_entry : ℕ
bad_entry = 23

-- 0 and the number typed, or 23 and no number (0).
unfoldable pub entry_of : List ℕ → ℕ × ℕ
entry_of typed = cond (cin_digits typed) (0, cin_of typed) (bad_entry, 0)

-- The answer of the code: document 02's number of it, and beside it the number typed, or 0.
abbrev pub entry_number : BadEntry → ℕ
entry_number e = bad_entry

pub entry_never_zero : (e : BadEntry) → eqb (entry_number e) 0 ≡ false
entry_never_zero e = refl

abbrev pub number_typed : Result Cin BadEntry → ℕ
number_typed (Ok cin) = cin.0
number_typed (Err e) = 0

abbrev pub entry_answer : Result Cin BadEntry → ℕ × ℕ
entry_answer r = (number_in entry_number r, number_typed r)
