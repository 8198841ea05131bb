-- FASC-N (document 01, section FASC-N, after documents 000 and 003, TIG SCEPACS): what 25 bytes mean, and what unpack,
-- pack and key give; the rule of a character, and a turned bit (document 02, request 3).
-- Assumes nothing.
use mathlib.Core.Path.{refl}
use Rattle.std.specs.Prelude.{◌≡◌, Bool, true, false, cond, not, ◌&&◌, List, [], ◌∷◌, ◌++◌, ℕ, suc, ◌+◌, ◌-◌, ◌*◌, ◌/◌, ◌%◌, ◌^◌, ◌<◌, eqb, ltb, leb, length, get_or, set, take, replicate, Result}
use Rattle.std.specs.Int.Bits.{bit_xor}
use Rattle.common.specs.Lists.{list_of, slice_of, all, number, xor_of}
use Rattle.common.specs.Refusal.{refusal_of, answer_in}
use Rattle.card.specs.declared.fascn.UnpackError.{UnpackError}
use Rattle.card.specs.declared.fascn.UnpackError.TheVariants.{WrongLength, WrongParity, OutOfPlace, WrongCheck}
use Rattle.card.specs.declared.fascn.AboveNine.{AboveNine}

-- ---- the counts

-- "25 bytes are 200 bits", "cut into 40 characters of 5 bits"
abbrev pub fascn_bytes : ℕ
fascn_bytes = 25

abbrev pub fascn_characters : ℕ
fascn_characters = 40

-- "That is 32 digits."
abbrev pub fascn_digits : ℕ
fascn_digits = 32

-- "the 39 values before it": the check character's place, counted from 0
abbrev pub check_place : ℕ
check_place = 39

-- "its first 16 digits as one whole number": the digits of a key
abbrev pub key_length : ℕ
key_length = 16

-- ---- bits and characters

-- 25 bytes are 200 bits, highest bit of each byte first: bit p of the bytes s.
unfoldable pub bit_at : List ℕ → ℕ → ℕ
bit_at s p = get_or s (p / 8) 0 / 2 ^ (7 - p % 8) % 2

-- They are cut into 40 characters of 5 bits: four value bits, lowest first,
unfoldable pub value_at : List ℕ → ℕ → ℕ
value_at s i = bit_at s (5 * i) + 2 * bit_at s (5 * i + 1) + 4 * bit_at s (5 * i + 2) + 8 * bit_at s (5 * i + 3)

-- then a bit making the count of ones odd.
unfoldable pub odd_at : List ℕ → ℕ → Bool
odd_at s i =
    eqb ((bit_at s (5 * i) + bit_at s (5 * i + 1) + bit_at s (5 * i + 2) + bit_at s (5 * i + 3) + bit_at s (5 * i + 4)) % 2) 1

-- The values of the 40 characters.
unfoldable pub values_in : List ℕ → List ℕ
values_in s = list_of fascn_characters (value_at s)

-- The other way: bit j of the character with the value x, by the same rule.
unfoldable pub char_bit : ℕ → ℕ → ℕ
char_bit x j = cond (ltb j 4) (x / 2 ^ j % 2) ((1 + x % 2 + x / 2 % 2 + x / 4 % 2 + x / 8 % 2) % 2)

-- Of five bits in the order sent, the value of the first four, lowest first, and the count of ones.
abbrev pub four_bits : (ℕ → ℕ) → ℕ
four_bits bit = bit 0 + 2 * bit 1 + 4 * bit 2 + 8 * bit 3

abbrev pub ones : (ℕ → ℕ) → ℕ
ones bit = bit 0 + bit 1 + bit 2 + bit 3 + bit 4

-- The rule by itself, of a value x and five bits, against which both ways are proved: "four value bits, lowest first,
-- then a bit making the count of ones odd".
pub record ByRule (x : ℕ) (bit : ℕ → ℕ) : Type 0 where
  pub binary : (j : ℕ) → j < 5 → bit j < 2
  pub value : four_bits bit ≡ x
  pub odd : ones bit % 2 ≡ 1

-- Bit j of character i of the bytes s, in the order sent.
abbrev pub char_bit_at : List ℕ → ℕ → ℕ → ℕ
char_bit_at s i j = bit_at s (5 * i + j)

-- Bit p of the characters with the values v, and the 25 bytes of these bits.
unfoldable pub sent_bit : List ℕ → ℕ → ℕ
sent_bit v p = char_bit (get_or v (p / 5) 0) (p % 5)

unfoldable pub bytes_of : List ℕ → List ℕ
bytes_of v = list_of fascn_bytes (λ k. number 2 8 (λ j. sent_bit v (8 * k + j)))

-- The bytes s with bit p turned (document 02, request 3: "with any one bit turned").
unfoldable pub turned : List ℕ → ℕ → List ℕ
turned s p = set s (p / 8) (bit_xor (get_or s (p / 8) 0) (2 ^ (7 - p % 8)))

-- ---- the order of marks and digits

-- A part of a FASC-N: a mark, which is one character with a fixed value, or a field of some digits.
pub data Piece : Type 0 where
  mark : ℕ → Piece
  field : ℕ → Piece

-- Start sentinel, field separator and end sentinel: "SS is value 11, FS 13, ES 15."
abbrev pub start_value : ℕ
start_value = 11

abbrev pub separator_value : ℕ
separator_value = 13

abbrev pub end_value : ℕ
end_value = 15

abbrev pub SS : Piece
SS = mark start_value

abbrev pub FS : Piece
FS = mark separator_value

abbrev pub ES : Piece
ES = mark end_value

-- The fields, each with its count of digits.
abbrev pub agency : Piece
agency = field 4

abbrev pub system : Piece
system = field 4

abbrev pub credential : Piece
credential = field 6

abbrev pub series : Piece
series = field 1

abbrev pub issue : Piece
issue = field 1

abbrev pub person : Piece
person = field 10

abbrev pub category : Piece
category = field 1

abbrev pub organisation : Piece
organisation = field 4

abbrev pub association : Piece
association = field 1

-- Order: 39 characters, of which 32 are digits. The check character comes after them.
abbrev pub order : List Piece
order =
    SS ∷ agency ∷ FS ∷ system ∷ FS ∷ credential ∷ FS ∷ series ∷ FS ∷ issue ∷ FS ∷ person ∷ category ∷ organisation ∷ association
    ∷ ES ∷ []

-- The values of the parts ps, whose first digit is digit k of the digits d.
unfoldable pub values_from : ℕ → List Piece → List ℕ → List ℕ
values_from k [] d = []
values_from k (mark m ∷ ps) d = m ∷ values_from k ps d
values_from k (field n ∷ ps) d = slice_of k n d ++ values_from (k + n) ps d

-- The digits of the parts ps, whose first character is character i of the values v.
unfoldable pub digits_from : ℕ → List Piece → List ℕ → List ℕ
digits_from i [] v = []
digits_from i (mark m ∷ ps) v = digits_from (suc i) ps v
digits_from i (field n ∷ ps) v = slice_of i n v ++ digits_from (i + n) ps v

-- Every mark of the parts ps, whose first character is character i of the values v, stands in its place.
unfoldable pub marks_from : ℕ → List Piece → List ℕ → Bool
marks_from i [] v = true
marks_from i (mark m ∷ ps) v = eqb (get_or v i 0) m && marks_from (suc i) ps v
marks_from i (field n ∷ ps) v = marks_from (i + n) ps v

-- The digits among the 40 values v, and whether every mark stands in its place among them.
abbrev pub digits_in : List ℕ → List ℕ
digits_in v = digits_from 0 order v

abbrev pub marks_in : List ℕ → Bool
marks_in v = marks_from 0 order v

-- Digit k of the digits d is at most 9.
unfoldable pub decimal_at : List ℕ → ℕ → Bool
decimal_at d k = leb (get_or d k 0) 9

-- The check value: the exclusive or of the 39 values before it.
unfoldable pub check_value : List ℕ → ℕ
check_value v = xor_of (take check_place v)

-- The 40 values of the FASC-N with the digits d.
unfoldable pub values_of : List ℕ → List ℕ
values_of d = values_from 0 order d ++ (check_value (values_from 0 order d) ∷ [])

-- ---- what the calls give

-- Unpack: 15 not 25 bytes; 16 parity in any character; 17 mark or digit out of place; 18 check character.
unfoldable pub unpack_refusal : List ℕ → ℕ
unpack_refusal s =
    let v = values_in s in
    refusal_of
    ((15, not (eqb (length s) fascn_bytes))
    ∷ (16, not (all fascn_characters (odd_at s)))
    ∷ (17, not (marks_in v && all fascn_digits (decimal_at (digits_in v))))
    ∷ (18, not (eqb (get_or v check_place 0) (check_value v)))
    ∷ [])

-- The digits d beside the number n, or 32 zeros where n refuses.
abbrev pub unpack_answer : ℕ → List ℕ → ℕ × List ℕ
unpack_answer n d = (n, cond (eqb n 0) d (replicate fascn_digits 0))

unfoldable pub unpack_of : List ℕ → ℕ × List ℕ
unpack_of s = unpack_answer (unpack_refusal s) (digits_in (values_in s))

-- Pack: 19 a digit above 9.
unfoldable pub pack_refusal : List ℕ → ℕ
pack_refusal d = refusal_of ((19, not (all fascn_digits (decimal_at d))) ∷ [])

-- The 25 bytes, or as many zeros where the digits are refused.
abbrev pub pack_answer : ℕ → List ℕ → ℕ × List ℕ
pack_answer n b = (n, cond (eqb n 0) b (replicate fascn_bytes 0))

unfoldable pub pack_of : List ℕ → ℕ × List ℕ
pack_of d = pack_answer (pack_refusal d) (bytes_of (values_of d))

-- Document 01's key of a card: its first 16 digits as one whole number.
unfoldable pub key_of : List ℕ → ℕ
key_of d = number 10 key_length (λ k. get_or d k 0)

-- ---- the answers of the code: document 01's number of each error, which is never 0, and the values beside it

abbrev pub unpack_number : UnpackError → ℕ
unpack_number WrongLength = 15
unpack_number WrongParity = 16
unpack_number OutOfPlace = 17
unpack_number WrongCheck = 18

pub unpack_never_zero : (e : UnpackError) → eqb (unpack_number e) 0 ≡ false
unpack_never_zero WrongLength = refl
unpack_never_zero WrongParity = refl
unpack_never_zero OutOfPlace = refl
unpack_never_zero WrongCheck = refl

abbrev pub unpacked : Result (List ℕ) UnpackError → ℕ × List ℕ
unpacked r = answer_in unpack_number (replicate fascn_digits 0) r

abbrev pub above_nine : ℕ
above_nine = 19

abbrev pub pack_number : AboveNine → ℕ
pack_number e = above_nine

pub pack_never_zero : (e : AboveNine) → eqb (pack_number e) 0 ≡ false
pack_never_zero e = refl

abbrev pub packed : Result (List ℕ) AboveNine → ℕ × List ℕ
packed r = answer_in pack_number (replicate fascn_bytes 0) r
