-- `card::object::rows_of` meets its contract: the rows are those of the definition. Assumes nothing.
use Rattle.card.specs.Object.{rows_of}
use Rattle.card.proofs.object.rows_of.Goals as goal

pub returns-in-Signed : goal.returns-in-Signed
unfolding rows_of
returns-in-Signed c = rw c.in-Signed.is

pub returns-in-Unsigned : goal.returns-in-Unsigned
unfolding rows_of
returns-in-Unsigned c = rw c.in-Unsigned.is

pub returns-in-Fingers : goal.returns-in-Fingers
unfolding rows_of
returns-in-Fingers c = rw c.in-Fingers.is

pub returns-in-Picture : goal.returns-in-Picture
unfolding rows_of
returns-in-Picture c = rw c.in-Picture.is
