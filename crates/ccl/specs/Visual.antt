-- The Visual Cancelled Card List as text, and a number looked up in it (document 02, request 2): "lines `(cin
-- (12345678))` with 1 to 10 digits and 0A after each line"; "It is yes exactly when the number is in the list"; "24 for
-- a malformed visual line anywhere in the text, with the first such line's number from 1, tested after the entry".
-- Assumes nothing.
use Rattle.std.specs.Prelude.{◌≡◌, refl, Bool, false, cond, ◌&&◌, List, [], ◌∷◌, ◌++◌, map, ℕ, ◌+◌, ◌-◌, eqb, length, get_or, take, drop, Result, Ok, Err}
use Rattle.common.specs.Lists.{concat, passing, is_in, same_bytes}
use Rattle.common.specs.Refusal.{number_in}
use Rattle.ccl.specs.Line.{closes}
use Rattle.ccl.specs.Cin.{cin_digits, cin_of, bad_entry}
use Rattle.ccl.specs.declared.visual.MalformedLine.{MalformedLine}
use Rattle.ccl.specs.declared.visual.LookUpError.{LookUpError}
use Rattle.ccl.specs.declared.visual.LookUpError.TheVariants as look-up-errors

-- ---- digits written as lines

-- `(cin (`, and `))` with the 0A
abbrev pub cin_opens : List ℕ
cin_opens = 0x28 ∷ 0x63 ∷ 0x69 ∷ 0x6E ∷ 0x20 ∷ 0x28 ∷ []

abbrev pub cin_closes : List ℕ
cin_closes = closes ++ (0x0A ∷ [])

abbrev pub opening_size : ℕ
opening_size = length cin_opens

abbrev pub closing_size : ℕ
closing_size = length cin_closes

-- The line of some digits.
unfoldable pub visual_line_of : List ℕ → List ℕ
visual_line_of d = cin_opens ++ d ++ cin_closes

-- The text of a list of such digits, a line to each.
abbrev pub visual_text_of : List (List ℕ) → List ℕ
visual_text_of ds = concat (map visual_line_of ds)

-- ---- the numbers of a text

-- The lines of a text: each runs to a 0A, which is its last byte. What follows the last 0A, if anything does, is a line
-- that lacks it. Empty text has no lines.
abbrev pub with_first : ℕ → List (List ℕ) → List (List ℕ)
with_first x [] = (x ∷ []) ∷ []
with_first x (l ∷ ls) = (x ∷ l) ∷ ls

unfoldable pub text_lines : List ℕ → List (List ℕ)
text_lines [] = []
text_lines (x ∷ s) = cond (eqb x 0x0A) ((x ∷ []) ∷ text_lines s) (with_first x (text_lines s))

-- What stands in a line between the bytes that open it and those that close it; and whether the line is that of 1 to 10
-- digits.
unfoldable pub visual_digits : List ℕ → List ℕ
visual_digits l = take (length l - (opening_size + closing_size)) (drop opening_size l)

unfoldable pub good_visual : List ℕ → Bool
good_visual l = cin_digits (visual_digits l) && same_bytes l (visual_line_of (visual_digits l))

-- How many good lines the text begins with, and whether all lines are good.
unfoldable pub good_visuals : List ℕ → ℕ
good_visuals text = passing (length (text_lines text)) (λ i. good_visual (get_or (text_lines text) i []))

unfoldable pub well_visual : List ℕ → Bool
well_visual text = eqb (good_visuals text) (length (text_lines text))

-- The numbers of the lines.
unfoldable pub cins_in : List ℕ → List ℕ
cins_in text = map (λ l. cin_of (visual_digits l)) (text_lines text)

-- ---- a number looked up

-- "24 for a malformed visual line anywhere in the text"
abbrev pub malformed_visual : ℕ
malformed_visual = 24

-- Beside 0 the yes (1) or no (0), beside 24 the number of the first malformed line.
unfoldable pub lookup_of : ℕ → List ℕ → ℕ × ℕ
lookup_of cin text = cond (well_visual text) (0, cond (is_in cin (cins_in text)) 1 0) (malformed_visual, good_visuals text + 1)

-- The number typed; 23 is tested first, and beside it stands nothing (0).
unfoldable pub typed_of : List ℕ → List ℕ → ℕ × ℕ
typed_of typed text = cond (cin_digits typed) (lookup_of (cin_of typed) text) (bad_entry, 0)

-- ---- the answers of the code: document 02's number of each error, and what stands beside it

abbrev pub lookup_number : MalformedLine → ℕ
lookup_number e = malformed_visual

pub lookup_never_zero : (e : MalformedLine) → eqb (lookup_number e) 0 ≡ false
lookup_never_zero e = refl

-- 1 or 0 for yes or no, or the number of the first malformed line
abbrev pub beside_lookup : Result Bool MalformedLine → ℕ
beside_lookup (Ok listed) = cond listed 1 0
beside_lookup (Err e) = e.0

abbrev pub lookup_answer : Result Bool MalformedLine → ℕ × ℕ
lookup_answer r = (number_in lookup_number r, beside_lookup r)

abbrev pub typed_number : LookUpError → ℕ
typed_number look-up-errors.BadEntry = bad_entry
typed_number (look-up-errors.Malformed n) = malformed_visual

pub typed_never_zero : (e : LookUpError) → eqb (typed_number e) 0 ≡ false
typed_never_zero look-up-errors.BadEntry = refl
typed_never_zero (look-up-errors.Malformed n) = refl

-- the same, and 0 beside 23
abbrev pub beside_typed : Result Bool LookUpError → ℕ
beside_typed (Ok listed) = cond listed 1 0
beside_typed (Err look-up-errors.BadEntry) = 0
beside_typed (Err (look-up-errors.Malformed n)) = n

abbrev pub typed_answer : Result Bool LookUpError → ℕ × ℕ
typed_answer r = (number_in typed_number r, beside_typed r)
