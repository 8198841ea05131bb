-- `host::image::step1_in` meets its contract: a turn reads one part. Assumes nothing.
use native.Mathlib.Omega.{arith}
use Prim.Native.Nat.{◌+◌, ◌*◌}
use lib.ListN.{take, drop, length-set}
use Rattle.std.proofs.lemmas.List.Edits.{fill_by_more}
use Rattle.std.proofs.lemmas.List.FromFn.{fill_by_all}
use Rattle.card.specs.Object.{empty}
use Rattle.host.specs.Image.{part_of_bytes, segments_in, cut_from}
use Rattle.host.proofs.image.step1_in.Goals as goal

pub loop-i-preserved : goal.loop-i-preserved
loop-i-preserved c = record {
  long = simp length-set c.loop-i.invariant.long;
  each = rw c.part_at.ensures (fill_by_more (λ k. part_of_bytes (take 8 (drop (81 + k * 8) c.args.image.now))) c.loop-i.part-items c.loop-i.i empty (omega arith) c.loop-i.invariant.each);
}

pub returns : goal.returns
unfolding segments_in cut_from
returns c =
    fill_by_all (λ k. part_of_bytes (take 8 (drop (81 + k * 8) c.args.image.now))) _ 9 empty c.loop-i.invariant.long (λ k h. c.loop-i.invariant.each k (omega arith))
