-- A line of the gate program's input as a value (document 01, "List text and the gate program"): "card lines .., `(open MODE DATE AID)`, `(answer HEX)`,
-- `(verdict KIND YES HEX)`. HEX is one or more pairs of upper-case digits; MODE, KIND and YES are one decimal digit, DATE eight. The 0A isn't counted".
-- Assumes nothing.
use Rattle.std.specs.Prelude.{Bool, cond, ◌&&◌, List, [], ◌∷◌, ℕ, ◌+◌, ◌-◌, eqb, ltb, leb, length, get_or, take, drop}
use Rattle.text.specs.Hex.{is_hex, bytes_in}
use Rattle.common.specs.Decimal.{spelled}
use Rattle.text.specs.Form.{between}
use Rattle.ccl.specs.Line.{good_card, line_key}

pub data GateLine : Type 0 where
  card : (key : ℕ) → GateLine
  opening : (mode date : ℕ) (aid : List ℕ) → GateLine
  answer : (bytes : List ℕ) → GateLine
  verdict : (kind yes_no : ℕ) (fascn : List ℕ) → GateLine
  bad : GateLine

-- "lines of at most 1,024 bytes"
abbrev pub longest : ℕ
longest = 1024

-- ---- the forms: what stands before HEX, with the lowest and with the highest digits

-- `(open 0 00000000 ` and `(open 9 99999999 `
abbrev pub open_lowest : List ℕ
open_lowest = 0x28 ∷ 0x6F ∷ 0x70 ∷ 0x65 ∷ 0x6E ∷ 0x20 ∷ 0x30 ∷ 0x20 ∷ 0x30 ∷ 0x30 ∷ 0x30 ∷ 0x30 ∷ 0x30 ∷ 0x30 ∷ 0x30 ∷ 0x30 ∷ 0x20 ∷ []

abbrev pub open_highest : List ℕ
open_highest = 0x28 ∷ 0x6F ∷ 0x70 ∷ 0x65 ∷ 0x6E ∷ 0x20 ∷ 0x39 ∷ 0x20 ∷ 0x39 ∷ 0x39 ∷ 0x39 ∷ 0x39 ∷ 0x39 ∷ 0x39 ∷ 0x39 ∷ 0x39 ∷ 0x20 ∷ []

-- `(answer `
abbrev pub answer_opens : List ℕ
answer_opens = 0x28 ∷ 0x61 ∷ 0x6E ∷ 0x73 ∷ 0x77 ∷ 0x65 ∷ 0x72 ∷ 0x20 ∷ []

-- `(verdict 0 0 ` and `(verdict 9 9 `
abbrev pub verdict_lowest : List ℕ
verdict_lowest = 0x28 ∷ 0x76 ∷ 0x65 ∷ 0x72 ∷ 0x64 ∷ 0x69 ∷ 0x63 ∷ 0x74 ∷ 0x20 ∷ 0x30 ∷ 0x20 ∷ 0x30 ∷ 0x20 ∷ []

abbrev pub verdict_highest : List ℕ
verdict_highest = 0x28 ∷ 0x76 ∷ 0x65 ∷ 0x72 ∷ 0x64 ∷ 0x69 ∷ 0x63 ∷ 0x74 ∷ 0x20 ∷ 0x39 ∷ 0x20 ∷ 0x39 ∷ 0x20 ∷ []

-- How many bytes each has.
abbrev pub open_head : ℕ
open_head = length open_lowest

abbrev pub answer_head : ℕ
answer_head = length answer_opens

abbrev pub verdict_head : ℕ
verdict_head = length verdict_lowest

-- What stands from place n on, but for the last byte.
unfoldable pub hex_from : ℕ → List ℕ → List ℕ
hex_from n s = take (length s - (n + 1)) (drop n s)

-- The line is a head of the form of two strings, then HEX, one pair or more, then `)`.
unfoldable pub headed : List ℕ → List ℕ → List ℕ → Bool
headed lowest highest s =
    let n = length lowest in
    leb (n + 3) (length s) && (between lowest highest (take n s) && is_hex (hex_from n s) && eqb (get_or s (length s - 1) 0) 0x29)

-- ---- the value of a line

-- of a line that is no card
unfoldable pub call_in : List ℕ → GateLine
call_in s =
    cond (headed open_lowest open_highest s) (opening (spelled 1 (drop 6 s)) (spelled 8 (drop 8 s)) (bytes_in (hex_from open_head s)))
    (cond (headed answer_opens answer_opens s) (answer (bytes_in (hex_from answer_head s)))
    (cond (headed verdict_lowest verdict_highest s) (verdict (spelled 1 (drop 9 s)) (spelled 1 (drop 11 s)) (bytes_in (hex_from verdict_head s))) bad))

unfoldable pub line_in : List ℕ → GateLine
line_in s = cond (ltb longest (length s)) bad (cond (good_card s) (card (line_key s)) (call_in s))
