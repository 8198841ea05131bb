-- `host::image::card_in` meets its contract: each value at its place. Assumes nothing.
use Rattle.host.specs.Image.{segments_in, cut_from}
use Rattle.host.proofs.NumberLaws.{from_four}
use Rattle.host.proofs.image.card_in.Goals as goal

pub returns : goal.returns
unfolding segments_in cut_from
returns c = rw (c.bytes_at-fascn.ensures, c.step1_in-step1.ensures, c.from_be_bytes.ensures, from_four, c.bytes_at.ensures, c.part_at.ensures)
