-- The texts of what the readers of TLVs, templates, data objects and dates say.
-- Assumes nothing.
use Rattle.std.specs.Prelude.{Bool, cond, ◌&&◌, List, [], ◌∷◌, ◌++◌, map, ℕ, ◌+◌, ◌-◌, ◌*◌, ◌/◌, ◌%◌, eqb, ltb, length, get_or, take, Option, Some, None}
use Rattle.common.specs.Lists.{all, number}
use Rattle.card.specs.Tlv.{tag_bytes, header_of}
use Rattle.card.specs.Template.{template_of}
use Rattle.card.specs.Object.{row_tag, rows_of, object_of, part_in}
use Rattle.card.specs.Date.{real_date, date_of}
use Rattle.card.specs.declared.tlv.Header.{Header}
use Rattle.card.specs.declared.object.Kind.{Kind}
use Rattle.card.specs.declared.object.Part.{Part}
use Rattle.text.specs.Hex.{hex_of}
use Rattle.append.specs.Append.{texts_of, number_text}
use Rattle.vectors.specs.RefusalText.{cause_text, no_vector}

-- ---- TLVs

-- ` at START for LEN`: where a value lies, and how long it is
abbrev pub at_word : List ℕ
at_word = 0x20 ∷ 0x61 ∷ 0x74 ∷ 0x20 ∷ []

abbrev pub for_word : List ℕ
for_word = 0x20 ∷ 0x66 ∷ 0x6F ∷ 0x72 ∷ 0x20 ∷ []

unfoldable pub place_text : ℕ → ℕ → List ℕ
place_text start len = at_word ++ number_text start ++ for_word ++ number_text len

-- `, nested, value` or `, plain, value`
abbrev pub nested_word : List ℕ
nested_word = 0x2C ∷ 0x20 ∷ 0x6E ∷ 0x65 ∷ 0x73 ∷ 0x74 ∷ 0x65 ∷ 0x64 ∷ 0x2C ∷ 0x20 ∷ 0x76 ∷ 0x61 ∷ 0x6C ∷ 0x75 ∷ 0x65 ∷ []

abbrev pub plain_word : List ℕ
plain_word = 0x2C ∷ 0x20 ∷ 0x70 ∷ 0x6C ∷ 0x61 ∷ 0x69 ∷ 0x6E ∷ 0x2C ∷ 0x20 ∷ 0x76 ∷ 0x61 ∷ 0x6C ∷ 0x75 ∷ 0x65 ∷ []

unfoldable pub nested_text : Bool → List ℕ
nested_text nested = cond nested nested_word plain_word

-- `tag TAG, nested, value at START for LEN`, or `malformed`
abbrev pub tag_word : List ℕ
tag_word = 0x74 ∷ 0x61 ∷ 0x67 ∷ 0x20 ∷ []

unfoldable pub text_of_header : Option Header → List ℕ
text_of_header (Some h) = tag_word ++ hex_of (tag_bytes h.tag) ++ nested_text h.nested ++ place_text h.start h.len
text_of_header None = 0x6D ∷ 0x61 ∷ 0x6C ∷ 0x66 ∷ 0x6F ∷ 0x72 ∷ 0x6D ∷ 0x65 ∷ 0x64 ∷ []

abbrev pub header_text : List ℕ → List ℕ
header_text s = text_of_header (header_of s)

-- ---- the SELECT answer

-- `good`, or its cause
unfoldable pub template_text : List ℕ → List ℕ
template_text s = let n = template_of s in cond (eqb n 0) (0x67 ∷ 0x6F ∷ 0x6F ∷ 0x64 ∷ []) (cause_text n)

-- ---- data objects

-- ` absent`, or where the part lies
unfoldable pub part_text : Part → List ℕ
part_text p = cond (eqb p.len 0) (0x20 ∷ 0x61 ∷ 0x62 ∷ 0x73 ∷ 0x65 ∷ 0x6E ∷ 0x74 ∷ []) (place_text p.start p.len)

-- `, ` between two fields, and before none the first
unfoldable pub comma_before : ℕ → List ℕ
comma_before i = cond (eqb i 0) [] (0x2C ∷ 0x20 ∷ [])

-- Field i that is shown: the one with that tag.
unfoldable pub field_text : Kind → List Part → ℕ → ℕ → List ℕ
field_text k parts i tag = comma_before i ++ hex_of (tag ∷ []) ++ part_text (part_in (rows_of k) parts tag)

-- The fields with these tags.
abbrev pub shown_text : Kind → List Part → List ℕ → List ℕ
shown_text k parts tags = texts_of (length tags) (λ i. field_text k parts i (get_or tags i 0))

-- The tags of the fields that are shown of an object: those of its rows but the last, FE.
unfoldable pub shown_tags : Kind → List ℕ
shown_tags k = let rows = rows_of k in map row_tag (take (length rows - 1) rows)

-- The fields, or the cause by which the object is refused.
unfoldable pub object_text : Kind → List ℕ → List ℕ
object_text k s = let o = object_of k s in cond (eqb o.0 0) (shown_text k o.1 (shown_tags k)) (cause_text o.0)

-- ---- dates

-- The number YYYYMMDD, or its cause.
unfoldable pub date_text : List ℕ → List ℕ
date_text s = let d = date_of s in cond (eqb d.0 0) (number_text d.1) (cause_text d.0)

-- Eight digits, two to a byte: byte i is two decimal digits, and the number that all spell.
unfoldable pub decimal_pair : List ℕ → ℕ → Bool
decimal_pair s i = ltb (get_or s i 0 / 16) 10 && ltb (get_or s i 0 % 16) 10

abbrev pub two_digits : ℕ → ℕ
two_digits x = x / 16 * 10 + x % 16

unfoldable pub eight_digits : List ℕ → ℕ
eight_digits s = number 100 4 (λ i. two_digits (get_or s i 0))

-- `real` or `not real`
unfoldable pub text_of_real : Bool → List ℕ
text_of_real b = cond b (0x72 ∷ 0x65 ∷ 0x61 ∷ 0x6C ∷ []) (0x6E ∷ 0x6F ∷ 0x74 ∷ 0x20 ∷ 0x72 ∷ 0x65 ∷ 0x61 ∷ 0x6C ∷ [])

unfoldable pub real_text : List ℕ → List ℕ
real_text s = cond (eqb (length s) 4 && all (length s) (decimal_pair s)) (text_of_real (real_date (eight_digits s))) no_vector
