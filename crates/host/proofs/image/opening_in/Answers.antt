-- `host::image::opening_in` meets its contract: each value at its place. Assumes nothing.
use lib.Dec.{lit<}
use lib.Seq.{get_or-take}
use Rattle.host.specs.Image.{segments_in, cut_from}
use Rattle.host.proofs.NumberLaws.{from_four, from_eight}
use Rattle.host.proofs.image.opening_in.Goals as goal

pub returns : goal.returns
unfolding segments_in cut_from
returns c =
    rw (get_or-take 9 c.args.image.now 1 0 (lit< tt), c.from_be_bytes.ensures, from_four, c.bytes_at.ensures, c.from_be_bytes-2.ensures, from_eight, c.bytes_at-2.ensures, c.bytes_at-aid.ensures)
