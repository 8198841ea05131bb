-- `card::template::walk`: the measure is the depth left; the loop's invariant, that the walk over the rest, with the 4Fs
-- noted so far, finds what the walk over the whole finds. Assumes nothing.
use mathlib.Core.Path.{◌≡◌}
use Prim.Native.Nat.{◌≤◌}
use lib.ListN.{length}
use Rattle.card.specs.declared.template.Aids.TheVariants.{Absent}
use Rattle.card.specs.TemplateCode.{walked}
use Rattle.card.proofs.template.+walk.Given as goal

abbrev pub decreases-walk : goal.decreases-walk
decreases-walk l = l.depth

abbrev pub invariant-loop-rest : goal.invariant-loop-rest
invariant-loop-rest l = (walked l.depth Absent l.s ≡ walked l.depth l.aids l.rest) × (length l.rest ≤ length l.s)

abbrev pub decreases-loop-rest : goal.decreases-loop-rest
decreases-loop-rest l = length l.rest
