-- `host::image::put_part` meets its contract: start and length. Assumes nothing.
use mathlib.Core.Path.{sym, ap}
use Prim.Native.Nat.{ℕ, ◌+◌}
use native.Mathlib.Omega.{arith}
use Rattle.host.specs.Image.{high_first, part_bytes}
use Rattle.host.proofs.NumberLaws.{length_high, over_on}
use Rattle.host.proofs.image.put_part.Goals as goal

pub returns : goal.returns
unfolding part_bytes
returns c = record { is = over_on c.args.out.now (high_first 4 c.args.p.start) (high_first 4 c.args.p.len) c.put_four.ensures.is c.put_four-2.ensures.is (ap (λ (n : ℕ). c.args.at + n) (sym (length_high 4 c.args.p.start))) (omega (arith, c.requires)); fits = record { start = c.put_four.ensures.fits; len = c.put_four-2.ensures.fits } }
