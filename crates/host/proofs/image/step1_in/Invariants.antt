-- `host::image::step1_in` meets its contract: a turn reads one part. Assumes nothing.
use mathlib.Core.Path.{◌≡◌}
use Prim.Native.Nat.{ℕ, ◌+◌, ◌*◌, ◌<◌}
use lib.ListN.{length, get_or, take, drop}
use Rattle.card.specs.Object.{empty, most_fields}
use Rattle.host.specs.Image.{part_of_bytes}
use Rattle.host.proofs.image.step1_in.Given as goal

abbrev pub invariant-loop-i : goal.invariant-loop-i
invariant-loop-i l = record { long : length l.part-items ≡ most_fields; each : (k : ℕ) → k < l.i → get_or l.part-items k empty ≡ part_of_bytes (take 8 (drop (81 + k * 8) l.image)) }
