-- `session::state::Session::values` meets its contract. Assumes nothing.
use Rattle.session.specs.Ranges.{ranged_values}
use Rattle.session.proofs.FigureLaws.{base_inside}
use Rattle.session.proofs.state.Session.values.Goals as goal

pub returns : goal.returns
unfolding ranged_values
returns c = rw (← c.base_of.ensures, ← c.base_of-2.ensures, c.parts_inside.ensures, c.part_inside.ensures)

pub parts_inside-requires : goal.parts_inside-requires
parts_inside-requires c = rw c.base_of.ensures (base_inside 1)

pub part_inside-requires : goal.part_inside-requires
part_inside-requires c = rw c.base_of-2.ensures (base_inside 2)
