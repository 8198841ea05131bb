-- A list line (document 01, "List text and the gate program"): "A list line is 32 bytes: `(card (1341 0001 987654) (1 1))` and 0A, the key's 16 digits so spaced."
-- Assumes nothing.
use Rattle.std.specs.Prelude.{Bool, cond, List, [], ◌∷◌, ◌++◌, ℕ, ◌+◌, ◌-◌, ◌^◌, Option, Some, None}
use Rattle.common.specs.Lists.{list_of, slice_of}
use Rattle.common.specs.Decimal.{digit_values, digit_of}
use Rattle.card.specs.Fascn.{key_length, key_of}
use Rattle.text.specs.Form.{between}
use Rattle.card.specs.declared.fascn.Key.{Key}

-- A key has 16 digits: keys are the numbers below this one, up to the highest.
abbrev pub key_limit : ℕ
key_limit = 10 ^ key_length

abbrev pub highest_key : ℕ
highest_key = key_limit - 1

-- ---- the line of a key

-- n of the key's 16 digits in ASCII, from digit k on.
abbrev pub digits : ℕ → ℕ → ℕ → List ℕ
digits key k n = list_of n (λ j. digit_of key_length key (k + j))

-- `(card (`, ` `, `) (` and `))`
abbrev pub card_opens : List ℕ
card_opens = 0x28 ∷ 0x63 ∷ 0x61 ∷ 0x72 ∷ 0x64 ∷ 0x20 ∷ 0x28 ∷ []

abbrev pub space : List ℕ
space = 0x20 ∷ []

abbrev pub between_groups : List ℕ
between_groups = 0x29 ∷ 0x20 ∷ 0x28 ∷ []

abbrev pub closes : List ℕ
closes = 0x29 ∷ 0x29 ∷ []

-- The text of a card: agency, system and credential; series and issue.
unfoldable pub card_text : ℕ → List ℕ
card_text key =
    card_opens ++ digits key 0 4 ++ space ++ digits key 4 4 ++ space ++ digits key 8 6
    ++ between_groups ++ digits key 14 1 ++ space ++ digits key 15 1 ++ closes

unfoldable pub line_of : ℕ → List ℕ
line_of key = card_text key ++ (0x0A ∷ [])

-- ---- a line and its key

-- A line is good where it has the form of the lines of the lowest and the highest key; so is a card's text, which lacks the 0A.
unfoldable pub good_line : List ℕ → Bool
good_line s = between (line_of 0) (line_of highest_key) s

unfoldable pub good_card : List ℕ → Bool
good_card s = between (card_text 0) (card_text highest_key) s

-- The bytes at the digits' places, and the key whose digits they are.
unfoldable pub line_digits : List ℕ → List ℕ
line_digits s = slice_of 7 4 s ++ slice_of 12 4 s ++ slice_of 17 6 s ++ slice_of 26 1 s ++ slice_of 28 1 s

unfoldable pub line_key : List ℕ → ℕ
line_key s = key_of (digit_values (line_digits s))

-- ---- the answer of the code: document 01's number of each case, and the key beside it

abbrev pub card_answer : Option Key → ℕ × ℕ
card_answer (Some key) = (0, key.0)
card_answer None = (20, 0)

unfoldable pub card_of : List ℕ → ℕ × ℕ
card_of s = cond (good_card s) (0, line_key s) (20, 0)
