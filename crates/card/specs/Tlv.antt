-- TLVs (document 01, section Objects): "A TLV is tag, length, value." What the bytes at the front of a list are, and an
-- encoder.
-- Assumes nothing.
use Rattle.std.specs.Prelude.{Bool, cond, ◌&&◌, List, [], ◌∷◌, ◌++◌, ℕ, ◌+◌, ◌*◌, ◌/◌, ◌%◌, eqb, ltb, length, get_or, Option, Some, None}
use Rattle.card.specs.declared.tlv.Header.{Header}

-- ---- the tag

-- "If the low five bits of a tag's first byte are all ones, a second byte follows, and a third if the second's top bit
-- is set; a third with its top bit set is malformed." How many bytes the tag takes that begins with a, b, c; 0 where it
-- is malformed.
unfoldable pub tag_size : ℕ → ℕ → ℕ → ℕ
tag_size a b c = cond (eqb (a % 32) 31) (cond (ltb b 128) 2 (cond (ltb c 128) 3 0)) 1

-- The tag as a number, high byte first.
unfoldable pub tag_number : ℕ → ℕ → ℕ → ℕ
tag_number a b c = cond (eqb (a % 32) 31) (cond (ltb b 128) (a * 256 + b) (a * 65536 + b * 256 + c)) a

-- "The bit of hexadecimal value 20 in the first byte marks a nested value."
abbrev pub nested_bit : ℕ → Bool
nested_bit a = eqb (a / 0x20 % 2) 1

-- ---- the length

-- "Lengths are 00 to 7F, or 81 and one byte, or 82 and two bytes, high first; a longer form than needed is accepted,
-- any other first byte is malformed." How many bytes the length takes that begins with a; 0 where it is malformed.
unfoldable pub length_size : ℕ → ℕ
length_size a = cond (ltb a 0x80) 1 (cond (eqb a 0x81) 2 (cond (eqb a 0x82) 3 0))

-- The length that begins with a, b, c.
unfoldable pub length_of : ℕ → ℕ → ℕ → ℕ
length_of a b c = cond (ltb a 0x80) a (cond (eqb a 0x81) b (b * 256 + c))

-- ---- the header

-- The TLV at the front of s is read in three steps: its tag, its length, its end. A byte past the end of s reads as 0
-- in the first two; a TLV whose tag, length or value runs past the end is malformed by the third.

-- A header, by its four parts.
abbrev pub header : ℕ → Bool → ℕ → ℕ → Header
header tag nested start len = record { tag = tag; nested = nested; start = start; len = len }

-- The value starts at a place and has a length: it ends within s.
unfoldable pub ending_of : List ℕ → ℕ → Bool → ℕ → ℕ → Option Header
ending_of s tag nested start len = cond (ltb (length s) (start + len)) None (Some (header tag nested start len))

-- The tag takes t bytes: the length follows.
unfoldable pub after_tag : List ℕ → ℕ → ℕ → Bool → Option Header
after_tag s t tag nested =
    let at : ℕ → ℕ = λ i. get_or s i 0 in
    let l = length_size (at t) in
    cond (eqb l 0) None (ending_of s tag nested (t + l) (length_of (at t) (at (t + 1)) (at (t + 2))))

-- The header: the tag, whether the value is nested, where it starts, and its length; none where the TLV is malformed.
unfoldable pub header_of : List ℕ → Option Header
header_of s =
    let at : ℕ → ℕ = λ i. get_or s i 0 in
    let t = tag_size (at 0) (at 1) (at 2) in
    cond (eqb t 0) None (after_tag s t (tag_number (at 0) (at 1) (at 2)) (nested_bit (at 0)))

-- "one TLV with tag .. and nothing after it": its header, or none.
unfoldable pub only_from : Option Header → ℕ → List ℕ → Option Header
only_from None wanted s = None
only_from (Some h) wanted s = cond (eqb h.tag wanted && eqb (h.start + h.len) (length s)) (Some h) None

unfoldable pub only_of : ℕ → List ℕ → Option Header
only_of wanted s = only_from (header_of s) wanted s

-- ---- an encoder

-- The bytes of the tag with a number, high byte first, as many as it needs.
unfoldable pub tag_bytes : ℕ → List ℕ
tag_bytes t =
    cond (ltb t 256) (t ∷ []) (cond (ltb t 65536) (t / 256 ∷ t % 256 ∷ []) (t / 65536 ∷ t / 256 % 256 ∷ t % 256 ∷ []))

-- A number is a tag where its bytes are read as so many.
unfoldable pub is_tag : ℕ → Bool
is_tag t =
    let at : ℕ → ℕ = λ i. get_or (tag_bytes t) i 0 in
    ltb t 0x1000000 && eqb (tag_size (at 0) (at 1) (at 2)) (length (tag_bytes t))

-- The three forms of a length, by their count of bytes: 1, 2 or 3.
unfoldable pub length_bytes : ℕ → ℕ → List ℕ
length_bytes form n = cond (eqb form 1) (n ∷ []) (cond (eqb form 2) (0x81 ∷ n ∷ []) (0x82 ∷ n / 256 ∷ n % 256 ∷ []))

-- Whether a form has room for a length.
unfoldable pub fits_form : ℕ → ℕ → Bool
fits_form form n = cond (eqb form 1) (ltb n 0x80) (cond (eqb form 2) (ltb n 256) (eqb form 3 && ltb n 65536))

-- Tag, length in one of its forms, value.
unfoldable pub encoded : ℕ → ℕ → List ℕ → List ℕ
encoded form tag value = tag_bytes tag ++ length_bytes form (length value) ++ value
