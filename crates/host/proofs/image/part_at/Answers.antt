-- `host::image::part_at` meets its contract: start and length. Assumes nothing.
use lib.Dec.{lit≤}
use lib.ListN.{drop}
use lib.Seq.{take-take}
use Rattle.host.specs.Image.{part_of_bytes}
use Rattle.host.proofs.NumberLaws.{part_in-part, from_four}
use Rattle.host.proofs.image.part_at.Goals as goal

pub returns : goal.returns
unfolding part_of_bytes
returns c =
    rw (c.from_be_bytes.ensures, c.from_be_bytes-2.ensures, from_four, from_four, c.bytes_at.ensures, c.bytes_at-2.ensures, take-take 4 8 (drop c.args.at c.args.s.now) (lit≤ tt), part_in-part c.args.s.now c.args.at 4 4 8 (lit≤ tt))
