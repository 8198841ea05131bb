-- `host::image::put_parts` meets its contract: a turn stores one part. Assumes nothing.
use native.Mathlib.Omega.{arith}
use Rattle.host.proofs.SaveLaws.{parts_none, parts_more, parts_end}
use Rattle.host.proofs.image.put_parts.Goals as goal

pub loop-i-init : goal.loop-i-init
loop-i-init c = parts_none c.args.out.now c.args.at c.args.parts

pub loop-i-preserved : goal.loop-i-preserved
loop-i-preserved c = parts_more c.loop-i.invariant (omega arith) (omega arith) c.put_part.ensures.is c.put_part.ensures.fits

pub returns : goal.returns
returns c = record { is = parts_end c.loop-i.invariant (omega arith); fit = record { count = omega arith; each = λ k h. c.loop-i.invariant.fit k (omega arith) } }
