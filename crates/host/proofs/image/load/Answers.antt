-- `host::image::load` meets its contract: the values of an image, or the dead session. Assumes nothing.
use mathlib.Core.Path.{sym, ◌∙◌}
use Rattle.host.specs.Image.{load_of, segments_in, cut_from}
use Rattle.host.proofs.image.load.Goals as goal

pub returns-then-not-is_image : goal.returns-then-not-is_image
unfolding load_of
returns-then-not-is_image c = rw (sym c.is_image.ensures ∙ c.if-not-is_image.true, c.dead_session.ensures)

pub returns : goal.returns
unfolding load_of segments_in cut_from
returns c = rw (sym c.is_image.ensures ∙ c.if-not-is_image.false, c.opening_in-opening.ensures, c.progress_in-progress.ensures, c.bytes_at-outcomes.ensures, c.card_in-card.ensures)
