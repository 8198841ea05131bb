-- A line as document 01 writes it ("List text and the gate program"): "card lines .., `(open MODE DATE AID)`, `(answer HEX)`, `(verdict KIND YES HEX)`. HEX is
-- one or more pairs of upper-case digits; MODE, KIND and YES are one decimal digit, DATE eight". The laws of LineTextLaws tie it to `line_in`.
-- Assumes nothing.
use Rattle.std.specs.Prelude.{List, [], ◌∷◌, ◌++◌, ℕ, ◌^◌, ◌≤◌, ◌<◌, length}
use Rattle.common.specs.Decimal.{digits_of}
use Rattle.text.specs.Hex.{hex_of}
use Rattle.ccl.specs.Line.{key_limit, space, card_text}
use Rattle.session.specs.Promise.{Bytes}
use Rattle.gate_lines.specs.Line.{GateLine, answer_opens}

-- `(open ` and `(open MODE DATE `
abbrev pub open_name : List ℕ
open_name = 0x28 ∷ 0x6F ∷ 0x70 ∷ 0x65 ∷ 0x6E ∷ 0x20 ∷ []

unfoldable pub open_text : ℕ → ℕ → List ℕ
open_text mode date = open_name ++ digits_of 1 mode ++ space ++ digits_of 8 date ++ space

-- `(verdict ` and `(verdict KIND YES `
abbrev pub verdict_name : List ℕ
verdict_name = 0x28 ∷ 0x76 ∷ 0x65 ∷ 0x72 ∷ 0x64 ∷ 0x69 ∷ 0x63 ∷ 0x74 ∷ 0x20 ∷ []

unfoldable pub verdict_text : ℕ → ℕ → List ℕ
verdict_text kind yes_no = verdict_name ++ digits_of 1 kind ++ space ++ digits_of 1 yes_no ++ space

-- HEX and `)` after a head
unfoldable pub with_hex : List ℕ → List ℕ → List ℕ
with_hex head bytes = head ++ hex_of bytes ++ (0x29 ∷ [])

-- The text of a value; a bad line has none of its own.
unfoldable pub text_of_line : GateLine → List ℕ
text_of_line (GateLine.card key) = card_text key
text_of_line (GateLine.opening mode date aid) = with_hex (open_text mode date) aid
text_of_line (GateLine.answer bytes) = with_hex answer_opens bytes
text_of_line (GateLine.verdict kind yes_no fascn) = with_hex (verdict_text kind yes_no) fascn
text_of_line GateLine.bad = []

-- The values that have a text: each number has as many digits as its place, and there is a byte or more.
abbrev pub SomeBytes : List ℕ → Type 0
SomeBytes bytes = (1 ≤ length bytes) × Bytes bytes

abbrev pub HasText : GateLine → Type 0
HasText (GateLine.card key) = key < key_limit
HasText (GateLine.opening mode date aid) = (mode < 10) × (date < 10 ^ 8) × SomeBytes aid
HasText (GateLine.answer bytes) = SomeBytes bytes
HasText (GateLine.verdict kind yes_no fascn) = (kind < 10) × (yes_no < 10) × SomeBytes fascn
HasText GateLine.bad = ⊥
