-- How the code goes about a visual list: the line that a text begins with, and a pass over the lines; no public
-- contract cites it.
-- Assumes nothing.
use Rattle.std.specs.Prelude.{Bool, cond, ◌&&◌, ◌||◌, List, [], ◌∷◌, ℕ, ◌+◌, eqb, leb, take, drop}
use Rattle.common.specs.Lists.{same_bytes, passing}
use Rattle.common.specs.Decimal.{is_digit_at, spelled}
use Rattle.ccl.specs.Cin.{longest_cin, cin_of}
use Rattle.ccl.specs.Visual.{opening_size, closing_size, cin_opens, cin_closes, visual_digits, good_visual, malformed_visual}

-- How many digits s begins with, as far as one more than a CIN may have.
unfoldable pub leading_digits : List ℕ → ℕ
leading_digits s = passing (longest_cin + 1) (is_digit_at s)

-- The count of bytes of the good line that s begins with, 0 where there is none; and the number in it.
unfoldable pub front_size : List ℕ → ℕ
front_size s =
    let n = leading_digits (drop opening_size s) in
    cond
    (same_bytes (take opening_size s) cin_opens && leb 1 n && leb n longest_cin && same_bytes (take closing_size (drop (opening_size + n) s)) cin_closes) (opening_size + n + closing_size) 0

unfoldable pub front_number : List ℕ → ℕ
front_number s = spelled (leading_digits (drop opening_size s)) (drop opening_size s)

-- The lines one after another, k lines being read and the number met among them or not.
unfoldable pub pass_over : ℕ → ℕ → Bool → List (List ℕ) → ℕ × ℕ
pass_over cin k met [] = (0, cond met 1 0)
pass_over cin k met (l ∷ ls) = cond (good_visual l) (pass_over cin (k + 1) (met || eqb cin (cin_of (visual_digits l))) ls) (malformed_visual, k + 1)
