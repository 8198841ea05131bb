-- `card::fascn::characters::number_in` meets its contract: a turn adds a digit to the base. Assumes nothing.
use mathlib.Core.Path.{◌≡◌}
use Prim.Native.Nat.{◌%◌, ◌^◌}
use lib.ListN.{get_or}
use Rattle.common.specs.Lists.{number}
use Rattle.card.proofs.fascn.characters.number_in.Given as goal

abbrev pub invariant-loop-x : goal.invariant-loop-x
invariant-loop-x l = l.w ≡ number (2 ^ l.bits) l.x-index (λ j. get_or l.s j 0 % 2 ^ l.bits)
