-- The texts of what unpack and pack say, and of the characters of document 003's figure 7.
-- Assumes nothing.
use Rattle.std.specs.Prelude.{Bool, cond, ◌||◌, List, [], ◌∷◌, ◌++◌, ℕ, ◌+◌, ◌*◌, ◌%◌, eqb, length, get_or, replicate}
use Rattle.common.specs.Lists.{list_of}
use Rattle.card.specs.Fascn.{fascn_digits, check_place, bit_at, unpack_of, pack_of, key_of}
use Rattle.text.specs.Hex.{hex_of}
use Rattle.append.specs.Append.{texts_of, number_text}
use Rattle.vectors.specs.RefusalText.{refusal_text, no_vector}

-- ---- unpack

-- The first n of 32 digits, with a space between two fields: agency, system, credential, series, issue, person, category, organisation, association.
abbrev pub opens_field : ℕ → Bool
opens_field k = eqb k 4 || eqb k 8 || eqb k 14 || eqb k 15 || eqb k 16 || eqb k 26 || eqb k 27 || eqb k 31

unfoldable pub digit_text : ℕ → ℕ → List ℕ
digit_text k x = cond (opens_field k) (0x20 ∷ (48 + x % 10) ∷ []) ((48 + x % 10) ∷ [])

abbrev pub spaced_digits : ℕ → List ℕ → List ℕ
spaced_digits n d = texts_of n (λ k. digit_text k (get_or d k 0))

-- The five bits of character i of the bytes s, in the order sent.
unfoldable pub character_text : List ℕ → ℕ → List ℕ
character_text s i = list_of 5 (λ j. bit_at s (5 * i + j) + 48)

-- The digits by field, the check character, the key, and the bytes that the digits pack to.
abbrev pub check_head : List ℕ
check_head = 0x2C ∷ 0x20 ∷ 0x63 ∷ 0x68 ∷ 0x65 ∷ 0x63 ∷ 0x6B ∷ 0x20 ∷ 0x63 ∷ 0x68 ∷ 0x61 ∷ 0x72 ∷ 0x61 ∷ 0x63 ∷ 0x74 ∷ 0x65 ∷ 0x72 ∷ 0x20 ∷ []

abbrev pub key_head : List ℕ
key_head = 0x2C ∷ 0x20 ∷ 0x6B ∷ 0x65 ∷ 0x79 ∷ 0x20 ∷ []

abbrev pub again_head : List ℕ
again_head = 0x2C ∷ 0x20 ∷ 0x70 ∷ 0x61 ∷ 0x63 ∷ 0x6B ∷ 0x65 ∷ 0x64 ∷ 0x20 ∷ 0x61 ∷ 0x67 ∷ 0x61 ∷ 0x69 ∷ 0x6E ∷ 0x20 ∷ []

unfoldable pub again_text : List ℕ → List ℕ
again_text s = again_head ++ hex_of s

unfoldable pub unpacked_text : List ℕ → List ℕ
unpacked_text d =
    let again = (pack_of d).1 in
    spaced_digits fascn_digits d ++ check_head ++ character_text again check_place ++ key_head ++ number_text (key_of d) ++ again_text again

unfoldable pub unpack_text : List ℕ → List ℕ
unpack_text s = let u = unpack_of s in cond (eqb u.0 0) (unpacked_text u.1) (refusal_text u.0)

-- ---- pack

abbrev pub packed_head : List ℕ
packed_head = 0x70 ∷ 0x61 ∷ 0x63 ∷ 0x6B ∷ 0x65 ∷ 0x64 ∷ 0x20 ∷ []

unfoldable pub pack_text : List ℕ → List ℕ
pack_text s =
    let p = pack_of s in
    cond (eqb (length s) fascn_digits) (cond (eqb p.0 0) (packed_head ++ hex_of p.1) (refusal_text p.0)) no_vector

-- ---- figure 7

-- A line: the name, and character i of the FASC-N whose digits are all x.
abbrev pub code_head : List ℕ
code_head = 0x30 ∷ 0x30 ∷ 0x33 ∷ 0x20 ∷ 0x66 ∷ 0x69 ∷ 0x67 ∷ 0x75 ∷ 0x72 ∷ 0x65 ∷ 0x20 ∷ 0x37 ∷ 0x3A ∷ 0x20 ∷ []

abbrev pub sent_as : List ℕ
sent_as = 0x20 ∷ 0x69 ∷ 0x73 ∷ 0x20 ∷ 0x73 ∷ 0x65 ∷ 0x6E ∷ 0x74 ∷ 0x20 ∷ 0x61 ∷ 0x73 ∷ 0x20 ∷ []

unfoldable pub code_text : List ℕ → ℕ → ℕ → List ℕ
code_text name x i = code_head ++ name ++ sent_as ++ character_text (pack_of (replicate fascn_digits x)).1 i ++ (0x0A ∷ [])

-- The first n digits, each found as the first digit of a FASC-N.
abbrev pub digit_codes : ℕ → List ℕ
digit_codes n = texts_of n (λ x. code_text ((48 + x) ∷ []) x 1)

-- The 13 characters: the ten digits, then `Start Sentinel`, `Field Separator` and `End Sentinel`, found at their places.
abbrev pub start_name : List ℕ
start_name = 0x53 ∷ 0x74 ∷ 0x61 ∷ 0x72 ∷ 0x74 ∷ 0x20 ∷ 0x53 ∷ 0x65 ∷ 0x6E ∷ 0x74 ∷ 0x69 ∷ 0x6E ∷ 0x65 ∷ 0x6C ∷ []

abbrev pub separator_name : List ℕ
separator_name = 0x46 ∷ 0x69 ∷ 0x65 ∷ 0x6C ∷ 0x64 ∷ 0x20 ∷ 0x53 ∷ 0x65 ∷ 0x70 ∷ 0x61 ∷ 0x72 ∷ 0x61 ∷ 0x74 ∷ 0x6F ∷ 0x72 ∷ []

abbrev pub end_name : List ℕ
end_name = 0x45 ∷ 0x6E ∷ 0x64 ∷ 0x20 ∷ 0x53 ∷ 0x65 ∷ 0x6E ∷ 0x74 ∷ 0x69 ∷ 0x6E ∷ 0x65 ∷ 0x6C ∷ []

unfoldable pub codes_text : List ℕ
codes_text = digit_codes 10 ++ code_text start_name 0 0 ++ code_text separator_name 0 5 ++ code_text end_name 0 38
