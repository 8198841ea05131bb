-- `card::fascn::key_from` meets its contract: a turn adds a decimal digit. Assumes nothing.
use mathlib.Core.Path.{◌≡◌}
use Prim.Native.Nat.{◌+◌, ◌*◌, ◌^◌, ◌≤◌}
use lib.ListN.{get_or}
use Rattle.common.specs.Lists.{number}
use Rattle.card.proofs.fascn.key_from.Given as goal

-- bytes above 9 are no digits, but fit: n is at most 29 * 10 ^ k - 29
abbrev pub invariant-loop-digit : goal.invariant-loop-digit
invariant-loop-digit l = (l.n ≡ number 10 l.digit-index (λ j. get_or l.d j 0)) × (l.n + 29 ≤ 29 * 10 ^ l.digit-index)
