-- `card::object::fields` meets its contract: a turn reads the field of one row. Assumes nothing.
use mathlib.Core.Path.{◌≡◌, refl, sym, ap, ◌∙◌}
use mathlib.Core.Bool.{cond}
use mathlib.Core.List.{List}
use Prim.Native.Nat.{◌≤◌}
use native.Mathlib.Omega.{arith}
use borrow.Author.Tests.{eq-eqb, ne_eqb}
use lib.Dec.{eqb}
use lib.ListN.{length}
use Rattle.std.specs.Prelude.{Result, Ok, Err, IsErr}
use Rattle.card.specs.Object.{most_fields, malformed_object, no_parts, rows_of, fields_from, fields_answer, object_answer}
use Rattle.card.specs.declared.object.Part.{Part}
use Rattle.card.specs.declared.object.MalformedObject.{MalformedObject}
use Rattle.card.proofs.TlvLaws.{some_of, none_of}
use Rattle.card.proofs.FieldLaws.{few_rows, row_at, read_more, read_refused, read_all}
use Rattle.card.proofs.object.fields.Goals as goal
use Rattle.card.proofs.object.fields.Goals.{After-loop-i, After-rows_of-rows}

-- a decline is the papers' number and no parts
bad : (r : Result (List Part) MalformedObject) → IsErr r → object_answer r ≡ (malformed_object, no_parts)
bad (Ok a) h = grind arith
bad (Err e) h = refl

-- there are no more rows than parts
few : (c : goal.After-rows_of-rows) → length c.rows_of-rows.result.now ≤ most_fields
few c = rw c.rows_of-rows.ensures (few_rows c.args.kind)

pub bounds-parts-i : goal.bounds-parts-i
bounds-parts-i c = omega (arith, few (goal.at.bounds-parts-i c).After-rows_of-rows)

pub loop-i-preserved : goal.loop-i-preserved
loop-i-preserved c =
    read_more _ c.loop-i.invariant (omega (arith, few (goal.at.loop-i-preserved c).After-rows_of-rows)) (row_at _ _ _ c.loop-i-test.true) (some_of _ _ (sym c.ok_or.ensures.value ∙ c.in_ok-field.was) ∙ c.next_field.ensures)

-- a row that is not as it asks decides
pub returns-in_err-field : goal.returns-in_err-field
returns-in_err-field c =
    bad _ c.from_residual.ensures.0
    ∙ rw (← c.rows_of-rows.ensures) (sym (read_refused _ c.loop-i.invariant (row_at _ _ _ c.loop-i-test.true) (sym (none_of _ _ (sym c.ok_or.ensures.value ∙ c.in_err-field.was)) ∙ c.next_field.ensures)))

-- after the loop the place reached decides
decided : (c : goal.After-loop-i) → fields_answer (fields_from c.args.v.now c.args.base (rows_of c.args.kind) 0)
    ≡ cond (eqb c.loop-i.at (length c.args.v.now)) (0, c.loop-i.parts) (20, no_parts)
decided c =
    rw (← c.rows_of-rows.ensures) (read_all c.loop-i.invariant (omega arith) (omega (arith, ap length c.rows_of-rows.ensures, few_rows c.args.kind)))

pub returns-then-at-v : goal.returns-then-at-v
returns-then-at-v c = sym (decided (goal.at.returns-then-at-v c).After-loop-i ∙ rw (eq-eqb _ _ c.if-at-v.true))

pub returns-else-at-v : goal.returns-else-at-v
returns-else-at-v c = sym (decided (goal.at.returns-else-at-v c).After-loop-i ∙ rw (ne_eqb _ _ c.if-at-v.false))
