-- The SELECT answer (document 01, section Objects): "one TLV with tag 61 and nothing after it. It directly holds just
-- one 4F of 1 to 16 bytes, not compared further. Every nested value must itself be whole TLVs, to a depth of 4 counting
-- 61 as 1; a TLV at depth 5 is malformed."
-- Assumes nothing.
use mathlib.Core.Path.{refl}
use Rattle.std.specs.Prelude.{◌≡◌, Bool, true, false, cond, not, ◌&&◌, ◌||◌, List, [], ◌∷◌, ℕ, zero, suc, ◌+◌, ◌-◌, eqb, leb, length, take, drop, Option, Some, None}
use Rattle.card.specs.Tlv.{header_of, only_of}
use Rattle.card.specs.declared.tlv.Header.{Header}
use Rattle.card.specs.declared.template.MalformedTemplate.{MalformedTemplate}

-- ---- the TLVs that a list of bytes is

-- One of them: its tag, whether it is nested, its value; or bytes that are none.
pub data Tlv : Type 0 where
  tlv : ℕ → Bool → List ℕ → Tlv
  broken : Tlv

-- The TLVs of s, one after another, at most n; where s is not whole TLVs the last is broken.
unfoldable pub tlvs_from : ℕ → List ℕ → List Tlv
tlvs_from zero s = []
tlvs_from (suc n) s =
    cond (eqb (length s) 0) []
    (elim (header_of s) [
      | None ↦ broken ∷ []
      | Some h ↦ tlv h.tag h.nested (take h.len (drop h.start s)) ∷ tlvs_from n (drop (h.start + h.len) s)
    ])

-- All of them: each takes a byte or more.
unfoldable pub tlvs_of : List ℕ → List Tlv
tlvs_of s = tlvs_from (length s) s

-- ---- whole TLVs to a depth

-- A TLV whose value, where it is nested, passes a test.
abbrev pub whole_tlv : (List ℕ → Bool) → Tlv → Bool
whole_tlv inner (tlv tag nested value) = not nested || inner value
whole_tlv inner broken = false

-- All TLVs of a list pass a test.
unfoldable pub every : (Tlv → Bool) → List Tlv → Bool
every test [] = true
every test (t ∷ ts) = test t && every test ts

-- s is whole TLVs, and so is every nested value, with d levels for TLVs to stand on; where there is none, no TLV may
-- stand.
unfoldable pub whole_to : ℕ → List ℕ → Bool
whole_to zero s = eqb (length s) 0
whole_to (suc d) s = every (whole_tlv (whole_to d)) (tlvs_of s)

-- ---- the template

-- "one TLV with tag 61"
abbrev pub template_tag : ℕ
template_tag = 0x61

-- "just one 4F of 1 to 16 bytes, not compared further": the tag of an application identifier, and the least and the
-- most bytes that it has here.
abbrev pub aid_tag : ℕ
aid_tag = 0x4F

abbrev pub held_least : ℕ
held_least = 1

abbrev pub held_most : ℕ
held_most = 16

-- "to a depth of 4 counting 61 as 1": so many levels are left for its value.
abbrev pub levels_left : ℕ
levels_left = 4 - 1

-- The lengths of the values with a tag among the TLVs ts.
unfoldable pub lengths_of : ℕ → List Tlv → List ℕ
lengths_of wanted [] = []
lengths_of wanted (broken ∷ ts) = lengths_of wanted ts
lengths_of wanted (tlv tag nested value ∷ ts) = cond (eqb tag wanted) (length value ∷ lengths_of wanted ts) (lengths_of wanted ts)

-- Just one, of 1 to 16 bytes.
unfoldable pub just_one : List ℕ → Bool
just_one [] = false
just_one (n ∷ []) = leb held_least n && leb n held_most
just_one (n ∷ m ∷ ns) = false

-- The value v of a 61.
unfoldable pub good_value : List ℕ → Bool
good_value v = whole_to levels_left v && just_one (lengths_of aid_tag (tlvs_of v))

-- By the header of the one TLV 61 that s is.
unfoldable pub good_from : Option Header → List ℕ → Bool
good_from None s = false
good_from (Some h) s = good_value (take h.len (drop h.start s))

-- "template malformed, cause 19"; 0 where it is good.
abbrev pub malformed_template : ℕ
malformed_template = 19

unfoldable pub template_of : List ℕ → ℕ
template_of s = cond (good_from (only_of template_tag s) s) 0 malformed_template

-- The answer of the code: document 01's cause of its error.
abbrev pub template_number : MalformedTemplate → ℕ
template_number e = malformed_template

pub template_never_zero : (e : MalformedTemplate) → eqb (template_number e) 0 ≡ false
template_never_zero e = refl
