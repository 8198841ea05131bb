-- The text of what the look-up of a typed number in a visual list says.
-- Assumes nothing.
use Rattle.std.specs.Prelude.{cond, List, [], ◌∷◌, ◌++◌, ℕ, ◌+◌, eqb, take, drop}
use Rattle.common.specs.Bytes.{index_of}
use Rattle.ccl.specs.Visual.{malformed_visual, typed_of}
use Rattle.append.specs.Append.{number_text}
use Rattle.vectors.specs.RefusalText.{refusal_text}

-- `yes`, `no`, and `refused 24 line N`
abbrev pub yes_word : List ℕ
yes_word = 0x79 ∷ 0x65 ∷ 0x73 ∷ []

abbrev pub no_word : List ℕ
no_word = 0x6E ∷ 0x6F ∷ []

abbrev pub line_word : List ℕ
line_word = 0x20 ∷ 0x6C ∷ 0x69 ∷ 0x6E ∷ 0x65 ∷ 0x20 ∷ []

unfoldable pub malformed_text : ℕ → List ℕ
malformed_text n = refusal_text malformed_visual ++ line_word ++ number_text n

-- By what it gives: document 02's number, and what stands beside it.
unfoldable pub text_of_lookup : ℕ × ℕ → List ℕ
text_of_lookup r = cond (eqb r.0 0) (cond (eqb r.1 1) yes_word no_word) (cond (eqb r.0 malformed_visual) (malformed_text r.1) (refusal_text r.0))

-- The line spells the entry, a byte 00, and the text of the list; where there is no 00, the entry alone.
unfoldable pub looked_up_text : List ℕ → List ℕ
looked_up_text s = let n = index_of 0x00 s in text_of_lookup (typed_of (take n s) (drop (n + 1) s))
