-- `host::image::progress_in` meets its contract: each value at its place. Assumes nothing.
use lib.Dec.{lit<}
use lib.Seq.{get_or-take}
use Rattle.host.specs.Image.{segments_in, cut_from}
use Rattle.host.proofs.NumberLaws.{from_eight}
use Rattle.host.proofs.image.progress_in.Goals as goal

pub returns : goal.returns
unfolding segments_in cut_from
returns c =
    rw (get_or-take 9 c.args.image.now 2 0 (lit< tt), get_or-take 9 c.args.image.now 3 0 (lit< tt), get_or-take 9 c.args.image.now 4 0 (lit< tt), get_or-take 9 c.args.image.now 5 0 (lit< tt), get_or-take 9 c.args.image.now 6 0 (lit< tt), get_or-take 9 c.args.image.now 7 0 (lit< tt), get_or-take 9 c.args.image.now 8 0 (lit< tt), c.from_be_bytes.ensures, from_eight, c.bytes_at.ensures, c.next_in-next.ensures)
