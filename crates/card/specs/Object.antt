-- Data objects (document 01, section Objects, with requests 5 and 7 of document 02): "A data object is one TLV with tag
-- 53 and nothing after; its value holds one-byte-tag fields, each once, in this order". Fields are not opened further.
-- Assumes nothing.
use mathlib.Core.Path.{refl}
use Rattle.std.specs.Prelude.{◌≡◌, Bool, true, false, cond, ◌&&◌, ◌||◌, List, [], ◌∷◌, ◌++◌, ℕ, ◌+◌, ◌-◌, ◌≤◌, eqb, leb, length, take, drop, replicate, Option, Some, None, Result}
use Rattle.common.specs.Refusal.{answer_in}
use Rattle.card.specs.Fascn.{fascn_bytes}
use Rattle.card.specs.Date.{date_digits}
use Rattle.card.specs.Tlv.{header_of, only_of, fits_form, encoded}
use Rattle.card.specs.declared.tlv.Header.{Header}
use Rattle.card.specs.declared.object.Kind.{Kind}
use Rattle.card.specs.declared.object.Kind.TheVariants.{Signed, Unsigned, Fingers, Picture}
use Rattle.card.specs.declared.object.Row.{Row}
use Rattle.card.specs.declared.object.Part.{Part}
use Rattle.card.specs.declared.object.MalformedObject.{MalformedObject}

-- ---- the tags

-- "one TLV with tag 53"
abbrev pub data_object_tag : ℕ
data_object_tag = 0x53

-- "EE with 2 bytes": the buffer length. This and 31, 32, 33 are elements of document 003, "checked for place and length
-- and not used" (document 02, request 5).
abbrev pub buffer_length_tag : ℕ
buffer_length_tag = 0xEE

-- "30 (25 bytes)": the FASC-N
abbrev pub fascn_tag : ℕ
fascn_tag = 0x30

-- "31 (4 bytes)": the agency code
abbrev pub agency_tag : ℕ
agency_tag = 0x31

-- "32 (4)": the organization identifier
abbrev pub organization_tag : ℕ
organization_tag = 0x32

-- "33 (9)": the DUNS number of the issuer
abbrev pub duns_tag : ℕ
duns_tag = 0x33

-- "34 (16)": the GUID
abbrev pub guid_tag : ℕ
guid_tag = 0x34

-- "35 (8)": the expiry date
abbrev pub expiry_tag : ℕ
expiry_tag = 0x35

-- "3E (1 to 2,816)": the issuer's signature
abbrev pub signature_tag : ℕ
signature_tag = 0x3E

-- "BC (1 to 862)": the finger templates of DFC103; "BC (1 to 16,000 bytes)": the facial image of DFC108
abbrev pub biometric_tag : ℕ
biometric_tag = 0xBC

-- "FE (0)": the error detection code, which ends an object
abbrev pub end_tag : ℕ
end_tag = 0xFE

-- ---- the rows

-- What a row says of its field: its tag, its least and its greatest length, and whether it may be absent.
abbrev pub row_tag : Row → ℕ
row_tag r = r.tag

abbrev pub least : Row → ℕ
least r = r.least

abbrev pub greatest : Row → ℕ
greatest r = r.most

abbrev pub may_be_absent : Row → Bool
may_be_absent r = r.optional

-- A field that has to be there, and one that may be absent.
abbrev pub required : ℕ → ℕ → ℕ → Row
required tag low high = record { tag = tag; least = low; most = high; optional = false }

abbrev pub optional : ℕ → ℕ → ℕ → Row
optional tag low high = record { tag = tag; least = low; most = high; optional = true }

-- The rows with which the signed and the unsigned object begin: 30 (25 bytes), and around it "EE with 2 bytes may stand
-- before 30. Straight after 30 may stand 31 (4 bytes), 32 (4) and 33 (9), in this order, each at most once. .. The
-- unsigned object gains the same four." (document 02, request 5)
abbrev pub first_rows : List Row
first_rows =
    optional buffer_length_tag 2 2
    ∷ required fascn_tag fascn_bytes fascn_bytes
    ∷ optional agency_tag 4 4
    ∷ optional organization_tag 4 4
    ∷ optional duns_tag 9 9
    ∷ []

-- 5FC102, signed: 30 (25 bytes), 34 (16), 35 (8), 3E (1 to 2,816), FE (0).
-- 5FC104, unsigned (layout fixed here): 30 (25), 34 (16, may be absent), 35 (8), FE (0).
-- DFC103, fingers: BC (1 to 862), FE (0, may be absent).
-- "a facial image, object DFC108: BC (1 to 16,000 bytes), then FE (0 bytes, may be absent)" (document 02, request 7).
unfoldable pub rows_of : Kind → List Row
rows_of Signed = first_rows ++ (required guid_tag 16 16 ∷ required expiry_tag date_digits date_digits ∷ required signature_tag 1 2816 ∷ required end_tag 0 0 ∷ [])
rows_of Unsigned = first_rows ++ (optional guid_tag 16 16 ∷ required expiry_tag date_digits date_digits ∷ required end_tag 0 0 ∷ [])
rows_of Fingers = required biometric_tag 1 862 ∷ optional end_tag 0 0 ∷ []
rows_of Picture = required biometric_tag 1 16000 ∷ optional end_tag 0 0 ∷ []

-- The most fields that an object has. A layout has as many rows, and an answer as many parts.
abbrev pub most_fields : ℕ
most_fields = 9

-- The tag by which GET DATA asks for the object.
unfoldable pub object_tag : Kind → List ℕ
object_tag Signed = 0x5F ∷ 0xC1 ∷ 0x02 ∷ []
object_tag Unsigned = 0x5F ∷ 0xC1 ∷ 0x04 ∷ []
object_tag Fingers = 0xDF ∷ 0xC1 ∷ 0x03 ∷ []
object_tag Picture = 0xDF ∷ 0xC1 ∷ 0x08 ∷ []

-- ---- the fields

-- Where a value lies in the whole object; the part of an absent field.
abbrev pub part : ℕ → ℕ → Part
part start len = record { start = start; len = len }

abbrev pub empty : Part
empty = part 0 0

-- What a row finds at a place: whether it is as the row asks, the part of its field, and the place after it.
pub record Field : Type 0 where
  pub ok : Bool
  pub part : Part
  pub next : ℕ

-- The row's field is absent at a place: the next row's is looked for there.
abbrev pub absent : Row → ℕ → Field
absent r at = record { ok = may_be_absent r; part = empty; next = at }

-- The row's field is the TLV at a place, its value from `start` on.
abbrev pub found : ℕ → Row → ℕ → ℕ → ℕ → Field
found base r at start len =
    record { ok = leb (least r) len && leb len (greatest r); part = part (base + (at + start)) len; next = at + start + len }

-- The row's field at place `at` of a value that begins at place `base` of the whole, by the header of the TLV that
-- stands there.
unfoldable pub field_from : Option Header → ℕ → Row → ℕ → Field
field_from None base r at = absent r at
field_from (Some h) base r at =
    cond (eqb h.tag (row_tag r)) (found base r at h.start h.len) (absent r at)

unfoldable pub row_field : List ℕ → ℕ → Row → ℕ → Field
row_field v base r at = field_from (header_of (drop at v)) base r at

-- The fields of the rows from place `at` of the value v on: whether each is as its row asks and nothing follows the
-- last, and their parts.
unfoldable pub fields_from : List ℕ → ℕ → List Row → ℕ → Bool × List Part
fields_from v base [] at = (eqb at (length v), [])
fields_from v base (r ∷ rs) at =
    let f = row_field v base r at in
    let after = fields_from v base rs f.next in
    (f.ok && after.0, f.part ∷ after.1)

-- ---- the object

-- All parts empty.
abbrev pub no_parts : List Part
no_parts = replicate most_fields empty

-- "object malformed, 20"
abbrev pub malformed_object : ℕ
malformed_object = 20

-- Cause 0 and the parts, those past the last field empty; or that cause, and all parts empty.
unfoldable pub fields_answer : Bool × List Part → ℕ × List Part
fields_answer f = cond f.0 (0, f.1 ++ replicate (most_fields - length f.1) empty) (malformed_object, no_parts)

-- By the header of the one TLV 53 that s is: its value is handed to the fields, and parts are those of the whole.
unfoldable pub object_from : Option Header → Kind → List ℕ → ℕ × List Part
object_from None k s = (malformed_object, no_parts)
object_from (Some h) k s = fields_answer (fields_from (take h.len (drop h.start s)) h.start (rows_of k) 0)

-- What the object reader gives of the object s.
unfoldable pub object_of : Kind → List ℕ → ℕ × List Part
object_of k s = object_from (only_of data_object_tag s) k s

-- The part of the field with a tag, among the parts of some rows' fields.
unfoldable pub part_in : List Row → List Part → ℕ → Part
part_in [] ps tag = empty
part_in (r ∷ rs) [] tag = empty
part_in (r ∷ rs) (p ∷ ps) tag = cond (eqb (row_tag r) tag) p (part_in rs ps tag)

-- The bytes of a part of s.
unfoldable pub bytes_at : List ℕ → Part → List ℕ
bytes_at s p = take p.len (drop p.start s)

-- The part of the field with a tag in the object s, and its value.
abbrev pub field_part : Kind → ℕ → List ℕ → Part
field_part k tag s = part_in (rows_of k) (object_of k s).1 tag

unfoldable pub field_value : Kind → ℕ → List ℕ → List ℕ
field_value k tag s = bytes_at s (field_part k tag s)

-- ---- what laws say of an object

-- A length that a row allows: of its field, or none where the field may be absent.
abbrev pub allowed : Row → ℕ → Bool
allowed r n = (leb (least r) n && leb n (greatest r)) || (may_be_absent r && eqb n 0)

-- The row with a tag; where there is none, one whose field is absent.
unfoldable pub row_in : List Row → ℕ → Row
row_in [] tag = optional tag 0 0
row_in (r ∷ rs) tag = cond (eqb (row_tag r) tag) r (row_in rs tag)

-- What the encoder makes for rows: the encodings of their fields, one after another, and the values of these. A field
-- is left out, its value then [], only where its row says that it may be absent; a value that is given has a length
-- that its row allows and that its form, of so many bytes, has room for.
pub data Made : List Row → List ℕ → List (List ℕ) → Type 0 where
  no_rows : Made [] [] []
  left_out : {r : Row} {rs : List Row} {v : List ℕ} {values : List (List ℕ)} → may_be_absent r ≡ true → Made rs v values → Made (r ∷ rs) v ([] ∷ values)
  given : {r : Row} {rs : List Row} {v : List ℕ} {values : List (List ℕ)} (form : ℕ) (value : List ℕ) → least r ≤ length value → length value ≤ greatest r
      → fits_form form (length value) ≡ true → Made rs v values → Made (r ∷ rs) (encoded form (row_tag r) value ++ v) (value ∷ values)

-- Of values that are given for rows, that of the row with a tag; [] where no row has it.
unfoldable pub value_in : List Row → List (List ℕ) → ℕ → List ℕ
value_in [] values tag = []
value_in (r ∷ rs) [] tag = []
value_in (r ∷ rs) (value ∷ values) tag = cond (eqb (row_tag r) tag) value (value_in rs values tag)

-- ---- the answer of the code: document 01's cause of its error, and the parts beside it

abbrev pub object_number : MalformedObject → ℕ
object_number e = malformed_object

pub object_never_zero : (e : MalformedObject) → eqb (object_number e) 0 ≡ false
object_never_zero e = refl

abbrev pub object_answer : Result (List Part) MalformedObject → ℕ × List Part
object_answer r = answer_in object_number no_parts r
