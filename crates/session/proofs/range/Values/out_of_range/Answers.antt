-- `session::range::Values::out_of_range` meets its contract: its tests are the definition's. Assumes nothing.
use Rattle.session.specs.Ranges.{values_in_range}
use Rattle.session.proofs.range.Values.out_of_range.Goals as goal

pub returns : goal.returns
unfolding values_in_range
returns c =
    rw (c.mode_in_range.ensures, c.real.ensures, c.good_aid.ensures, c.ends.ensures, c.has_step2.ensures, c.capacity.ensures, c.expiry_in_range.ensures, c.outcomes_in_range.ensures)
