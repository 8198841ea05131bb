-- `card::command::object_tag` meets its contract: the tags are those of the definition. Assumes nothing.
use Rattle.card.specs.Object.{object_tag}
use Rattle.card.proofs.command.object_tag.Goals as goal

pub returns-in-Signed : goal.returns-in-Signed
unfolding object_tag
returns-in-Signed c = rw c.in-Signed.is

pub returns-in-Unsigned : goal.returns-in-Unsigned
unfolding object_tag
returns-in-Unsigned c = rw c.in-Unsigned.is

pub returns-in-Fingers : goal.returns-in-Fingers
unfolding object_tag
returns-in-Fingers c = rw c.in-Fingers.is

pub returns-in-Picture : goal.returns-in-Picture
unfolding object_tag
returns-in-Picture c = rw c.in-Picture.is
