-- The text of a line: a word, numbers in decimal and bytes in hexadecimal, each after a space, and 0A.
-- Assumes nothing.
use Rattle.std.specs.Prelude.{cond, List, [], ◌∷◌, ◌++◌, ℕ, eqb, length, get_or}
use Rattle.append.specs.Append.{texts_of, number_text}
use Rattle.text.specs.Hex.{hex_of}

-- The most bytes of a line.
abbrev pub line_most : ℕ
line_most = 512

abbrev pub space : List ℕ
space = 0x20 ∷ []

unfoldable pub number_part : ℕ → List ℕ
number_part n = space ++ number_text n

unfoldable pub numbers_part : List ℕ → List ℕ
numbers_part ns = texts_of (length ns) (λ i. number_part (get_or ns i 0))

-- Bytes that are none are left out, with their space.
unfoldable pub bytes_part : List ℕ → List ℕ
bytes_part bytes = cond (eqb (length bytes) 0) [] (space ++ hex_of bytes)

unfoldable pub line_text : List ℕ → List ℕ → List ℕ → List ℕ
line_text word numbers bytes = word ++ numbers_part numbers ++ bytes_part bytes ++ (0x0A ∷ [])
