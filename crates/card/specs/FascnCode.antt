-- How the code goes about the FASC-N: a character as one number of five bits, the bit sent first highest. No public
-- contract cites it.
-- Assumes nothing.
use Rattle.std.specs.Prelude.{Bool, cond, List, [], ◌∷◌, ◌++◌, ℕ, suc, ◌+◌, ◌-◌, ◌*◌, ◌/◌, ◌%◌, ◌^◌, eqb, get_or}
use Rattle.std.specs.Int.Bits.{bit_xor}
use Rattle.common.specs.Lists.{list_of, number, xor_of}
use Rattle.card.specs.Fascn.{fascn_bytes, fascn_characters, fascn_digits, char_bit, Piece, start_value, separator_value, mark, field, order, values_from, values_of}

-- Bit p of the numbers s, each of m bits, the highest first.
unfoldable pub bit_of : ℕ → List ℕ → ℕ → ℕ
bit_of m s p = get_or s (p / m) 0 / 2 ^ (m - suc (p % m)) % 2

-- The bits of the numbers s, each of m bits, cut anew into numbers of n bits: number i of these.
unfoldable pub regrouped : ℕ → ℕ → List ℕ → ℕ → ℕ
regrouped m n s i = number 2 n (λ j. bit_of m s (n * i + j))

-- The count of ones of a character is odd; its value; and the character of a value.
abbrev pub odd_char : ℕ → Bool
odd_char c = eqb ((c / 16 % 2 + c / 8 % 2 + c / 4 % 2 + c / 2 % 2 + c % 2) % 2) 1

abbrev pub value_char : ℕ → ℕ
value_char c = c / 16 % 2 + 2 * (c / 8 % 2) + 4 * (c / 4 % 2) + 8 * (c / 2 % 2)

unfoldable pub char_of : ℕ → ℕ
char_of x = number 2 5 (char_bit x)

-- Bit j of the character c, in the order sent.
abbrev pub bit_in : ℕ → ℕ → ℕ
bit_in c j = c / 2 ^ (5 - suc j) % 2

-- The 40 characters of the bytes s, and those of the FASC-N with the digits d.
unfoldable pub chars_in : List ℕ → List ℕ
chars_in s = list_of fascn_characters (regrouped 8 5 s)

unfoldable pub chars_of : List ℕ → List ℕ
chars_of d = list_of fascn_characters (λ i. char_of (get_or (values_of d) i 0))

-- The 25 bytes of the 40 characters c.
unfoldable pub bytes_of_chars : List ℕ → List ℕ
bytes_of_chars c = list_of fascn_bytes (regrouped 5 8 c)

-- The parts ps, with f of each mark in its place.
unfoldable pub marks_mapped : (ℕ → ℕ) → List Piece → List Piece
marks_mapped f [] = []
marks_mapped f (mark m ∷ ps) = mark (f m) ∷ marks_mapped f ps
marks_mapped f (field n ∷ ps) = field n ∷ marks_mapped f ps

-- The numbers e in the places of the digits, ss, fs and es in those of SS, FS and ES, and check in the last.
unfoldable pub in_order : List ℕ → ℕ → ℕ → ℕ → ℕ → List ℕ
in_order e ss fs es check = values_from 0 (marks_mapped (λ m. cond (eqb m start_value) ss (cond (eqb m separator_value) fs es)) order) e ++ (check ∷ [])

-- The marks among the parts ps.
unfoldable pub marks_of : List Piece → List ℕ
marks_of [] = []
marks_of (mark m ∷ ps) = m ∷ marks_of ps
marks_of (field n ∷ ps) = marks_of ps

-- The exclusive or of the marks and the digits d.
unfoldable pub check_digits : List ℕ → ℕ
check_digits d = bit_xor (xor_of (marks_of order)) (xor_of (list_of fascn_digits (λ k. get_or d k 0)))
