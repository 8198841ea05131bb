-- The input: bytes, in blocks of any size, cut into lines at 0A, and what is printed for them.
-- Assumes nothing.
use Rattle.std.specs.Prelude.{cond, List, [], ◌∷◌, ◌++◌, ℕ, ◌-◌, eqb, length, take, drop}
use Rattle.common.specs.Lists.{over_front}
use Rattle.vectors.specs.FascnText.{codes_text}
use Rattle.vectors.specs.Line.{line_text}

-- The bytes s, after those that are held of a line that is not whole: the text of the lines that 0A ends, and the bytes that are held then.
unfoldable pub lines_text : List ℕ → List ℕ → List ℕ
lines_text held [] = []
lines_text held (b ∷ s) = cond (eqb b 0x0A) (line_text held ++ lines_text [] s) (lines_text (held ++ (b ∷ [])) s)

unfoldable pub rest_of : List ℕ → List ℕ → List ℕ
rest_of held [] = held
rest_of held (b ∷ s) = cond (eqb b 0x0A) (rest_of [] s) (rest_of (held ++ (b ∷ [])) s)

-- A last line without 0A counts where it has a byte.
unfoldable pub last_line_text : List ℕ → List ℕ
last_line_text s = cond (eqb (length s) 0) [] (line_text s)

-- All that is printed for an input: the characters of figure 7 first.
unfoldable pub input_text : List ℕ → List ℕ
input_text s = codes_text ++ lines_text [] s ++ last_line_text (rest_of [] s)

-- The same block by block, as the program has it: each block is read after the bytes that the one before left. The law `in_blocks` says that it makes no
-- difference in which blocks the input arrives.
unfoldable pub blocks_text : List ℕ → List (List ℕ) → List ℕ
blocks_text held [] = last_line_text held
blocks_text held (b ∷ bs) = lines_text [] (held ++ b) ++ blocks_text (rest_of [] (held ++ b)) bs

-- The buffer l with its bytes from place `from` to place `end` at its front; the others are as they were.
unfoldable pub moved : List ℕ → ℕ → ℕ → List ℕ
moved l from end = over_front (take (end - from) (drop from l)) l
