-- `host::image::is_image` meets its contract: the bytes tested are those of the first segment. Assumes nothing.
use lib.Dec.{lit<}
use lib.Seq.{get_or-take}
use Rattle.host.specs.Image.{segments_in, cut_from}
use Rattle.host.specs.Image.{is_image}
use Rattle.host.proofs.image.is_image.Goals as goal

pub returns : goal.returns
unfolding is_image segments_in cut_from
returns c = rw (get_or-take 9 c.args.image.now 0 0 (lit< tt), get_or-take 9 c.args.image.now 3 0 (lit< tt), get_or-take 9 c.args.image.now 4 0 (lit< tt), get_or-take 9 c.args.image.now 5 0 (lit< tt))
