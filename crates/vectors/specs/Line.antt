-- The parts of a line `PLACE: CALL HEX` of the input, and the text that it gives.
-- Assumes nothing.
use Rattle.std.specs.Prelude.{cond, ◌&&◌, List, [], ◌∷◌, ◌++◌, ℕ, ◌+◌, ◌*◌, leb, length, take, drop}
use Rattle.text.specs.Hex.{is_hex, bytes_in}
use Rattle.common.specs.Bytes.{index_of}
use Rattle.vectors.specs.RefusalText.{no_vector}
use Rattle.vectors.specs.Answer.{call_named, named_text}

-- What follows the first `: `, the word in front of that, and what follows the word and a space.
unfoldable pub after_place : List ℕ → List ℕ
after_place s = drop (index_of 0x3A s + 2) s

unfoldable pub first_word : List ℕ → List ℕ
first_word s = take (index_of 0x20 s) s

unfoldable pub after_word : List ℕ → List ℕ
after_word s = drop (index_of 0x20 s + 1) s

-- The most bytes that a line spells: more than fit a line of the program's buffer.
abbrev pub most_bytes : ℕ
most_bytes = 65536

-- The answer of the call of that name for the bytes that the digits spell.
unfoldable pub call_text : List ℕ → List ℕ → List ℕ
call_text name digits = cond (is_hex digits && leb (length digits) (2 * most_bytes)) (named_text (call_named name) (bytes_in digits)) no_vector

unfoldable pub answer_of_line : List ℕ → List ℕ
answer_of_line s = call_text (first_word (after_place s)) (after_word (after_place s))

-- `LINE gives ANSWER`, and 0A
abbrev pub gives_word : List ℕ
gives_word = 0x20 ∷ 0x67 ∷ 0x69 ∷ 0x76 ∷ 0x65 ∷ 0x73 ∷ 0x20 ∷ []

unfoldable pub line_text : List ℕ → List ℕ
line_text s = s ++ gives_word ++ answer_of_line s ++ (0x0A ∷ [])
