-- How the code goes about the template: one walk over the TLVs, which counts the 4Fs that it meets. No public contract
-- cites it.
-- Assumes nothing.
use Rattle.std.specs.Prelude.{cond, ◌&&◌, List, [], ◌∷◌, ℕ, eqb, leb, length, Option, Some, None}
use Rattle.card.specs.Template.{Tlv, tlv, broken, tlvs_of, whole_to, aid_tag, held_least, held_most}
use Rattle.card.specs.declared.template.Aids.{Aids}
use Rattle.card.specs.declared.template.Aids.TheVariants.{Absent, JustOne, Others}

-- One 4F of some bytes, after those met so far.
unfoldable pub one_more_aid : Aids → ℕ → Aids
one_more_aid Absent len = cond (leb held_least len && leb len held_most) JustOne Others
one_more_aid JustOne len = Others
one_more_aid Others len = Others

-- The 4Fs met so far, with one TLV more.
unfoldable pub noted : Aids → ℕ → ℕ → Aids
noted n tag len = cond (eqb tag aid_tag) (one_more_aid n len) n

-- The same over TLVs.
unfoldable pub noted_all : Aids → List Tlv → Aids
noted_all n [] = n
noted_all n (broken ∷ ts) = noted_all n ts
noted_all n (tlv tag nested value ∷ ts) = noted_all (noted n tag (length value)) ts

-- What a walk of s finds, d levels deep, the 4Fs met before it being n.
unfoldable pub walked : ℕ → Aids → List ℕ → Option Aids
walked d n s = cond (whole_to d s) (Some (noted_all n (tlvs_of s))) None
