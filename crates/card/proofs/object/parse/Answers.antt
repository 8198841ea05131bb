-- `card::object::parse` meets its contract: the TLV 53 is there, and its fields are judged, or it is not. Assumes
-- nothing.
use mathlib.Core.Path.{◌≡◌, refl, sym, ap, ◌∙◌}
use native.Mathlib.Omega.{arith}
use lib.ListN.{length}
use Rattle.card.specs.Tlv.{only_of}
use Rattle.card.specs.Object.{data_object_tag, object_from, object_of, object_answer, malformed_object, no_parts}
use Rattle.card.specs.declared.object.Part.{Part}
use Rattle.card.specs.declared.object.MalformedObject.{MalformedObject}
use mathlib.Core.List.{List}
use Rattle.std.specs.Prelude.{Some, Result, Ok, Err, IsErr}
use Rattle.card.proofs.TlvLaws.{some_of, none_of, value_length, only_is, header_small}
use Rattle.card.proofs.object.parse.Goals as goal
use Rattle.card.proofs.object.parse.Goals.{In_ok-header}

-- a decline is the papers' number and no parts
bad : (r : Result (List Part) MalformedObject) → IsErr r → object_answer r ≡ (malformed_object, no_parts)
bad (Ok a) h = grind arith
bad (Err e) h = refl

-- the TLV of the arm
whole_is : (c : goal.In_ok-header) → Some c.in_ok-header.header ≡ only_of data_object_tag c.args.s.now
whole_is c = some_of _ _ (sym c.ok_or.ensures.value ∙ c.in_ok-header.was) ∙ c.only.ensures

pub fields-requires : goal.fields-requires
fields-requires c =
    let e = only_is data_object_tag c.args.s.now (whole_is (goal.at.fields-requires c).In_ok-header) in
    omega (arith, e.2, ap length c.part.ensures, value_length c.args.s.now e.0, header_small c.args.s.now (λ i. (c.type_inv.s i).fits) e.0)

pub returns : goal.returns
unfolding object_of object_from
returns c = rw (← whole_is (goal.at.returns c).In_ok-header, ← c.part.ensures) c.fields.ensures

pub returns-in_err-header : goal.returns-in_err-header
unfolding object_of object_from
returns-in_err-header c = rw (sym c.only.ensures ∙ none_of _ _ (sym c.ok_or.ensures.value ∙ c.in_err-header.was)) (bad _ c.from_residual.ensures.0)
