-- `card::fascn::characters::bytes_of` meets its contract: a turn stores the five bytes of eight characters. Assumes nothing.
use Prim.Native.Nat.{◌-◌, ◌*◌}
use Rattle.common.proofs.LoopLaws.{WrittenSoFar}
use Rattle.card.specs.FascnCode.{regrouped}
use Rattle.card.proofs.fascn.characters.bytes_of.Given as goal

abbrev pub invariant-loop-g : goal.invariant-loop-g
invariant-loop-g l = WrittenSoFar l.initial.s 0 25 (regrouped 5 8 l.c) (5 * l.g) l.s

abbrev pub decreases-loop-g : goal.decreases-loop-g
decreases-loop-g l = 5 - l.g
