-- Refusals (document 01, "What each call may decline"): each call has a list of conditions, each with its number,
-- tested in the order shown; and the answers of the code, by the numbers of its errors.
-- Assumes nothing.
use Rattle.std.specs.Prelude.{Bool, cond, List, [], ◌∷◌, ℕ, Result, Ok, Err}

-- The number of the first condition that fits, and 0 where none does: the call is accepted.
abbrev pub refusal_of : List (ℕ × Bool) → ℕ
refusal_of [] = 0
refusal_of (r ∷ rs) = cond r.1 r.0 (refusal_of rs)

-- The number of an answer of the code, by the numbers of its errors: 0 where the call is accepted.
abbrev pub number_in : {T E : Type 0} → (E → ℕ) → Result T E → ℕ
number_in number (Ok x) = 0
number_in number (Err e) = number e

-- What an answer of the code gives, or `none` where the call is refused.
abbrev pub value_in : {T E : Type 0} → T → Result T E → T
value_in none (Ok x) = x
value_in none (Err e) = none

-- Both.
abbrev pub answer_in : {T E : Type 0} → (E → ℕ) → T → Result T E → ℕ × T
answer_in number none r = (number_in number r, value_in none r)
