-- The texts of the answers that more than one call gives.
-- Assumes nothing.
use Rattle.std.specs.Prelude.{List, [], ◌∷◌, ◌++◌, ℕ}
use Rattle.append.specs.Append.{number_text}

-- `refused N`: the number of a refusal in document 01 or 02
abbrev pub refusal_head : List ℕ
refusal_head = 0x72 ∷ 0x65 ∷ 0x66 ∷ 0x75 ∷ 0x73 ∷ 0x65 ∷ 0x64 ∷ 0x20 ∷ []

unfoldable pub refusal_text : ℕ → List ℕ
refusal_text n = refusal_head ++ number_text n

-- `cause N`: document 01's cause
abbrev pub cause_head : List ℕ
cause_head = 0x63 ∷ 0x61 ∷ 0x75 ∷ 0x73 ∷ 0x65 ∷ 0x20 ∷ []

unfoldable pub cause_text : ℕ → List ℕ
cause_text n = cause_head ++ number_text n

-- `no vector`: the call is not known, or the line spells no bytes that it takes
unfoldable pub no_vector : List ℕ
no_vector = 0x6E ∷ 0x6F ∷ 0x20 ∷ 0x76 ∷ 0x65 ∷ 0x63 ∷ 0x74 ∷ 0x6F ∷ 0x72 ∷ []
