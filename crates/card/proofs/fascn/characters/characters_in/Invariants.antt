-- `card::fascn::characters::characters_in` meets its contract: a turn stores the eight characters of five bytes. Assumes nothing.
use Prim.Native.Nat.{◌-◌, ◌*◌}
use Rattle.common.proofs.LoopLaws.{WrittenSoFar}
use Rattle.card.specs.FascnCode.{regrouped}
use Rattle.card.proofs.fascn.characters.characters_in.Given as goal

abbrev pub invariant-loop-g : goal.invariant-loop-g
invariant-loop-g l = WrittenSoFar l.initial.c 0 40 (regrouped 8 5 l.s) (8 * l.g) l.c

abbrev pub decreases-loop-g : goal.decreases-loop-g
decreases-loop-g l = 5 - l.g
