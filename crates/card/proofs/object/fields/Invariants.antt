-- `card::object::fields` meets its contract: a turn reads the field of one row. Assumes nothing.
use Rattle.card.proofs.FieldLaws.{Read}
use Rattle.card.proofs.object.fields.Given as goal

abbrev pub invariant-loop-i : goal.invariant-loop-i
invariant-loop-i l = Read l.v l.base l.rows l.i l.parts l.at
