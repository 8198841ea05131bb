-- `card::date::read` meets its contract: a turn adds a digit. Assumes nothing.
use mathlib.Core.Path.{◌≡◌}
use Rattle.common.specs.Decimal.{spelled}
use Rattle.card.proofs.date.read.Given as goal

abbrev pub invariant-loop-digit : goal.invariant-loop-digit
invariant-loop-digit l = l.n ≡ spelled l.digit-index l.digit-items
