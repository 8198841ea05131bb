-- `ccl::cin::leading_digits` meets its contract: a turn adds a digit, up to the first byte that is none. Assumes
-- nothing.
use mathlib.Core.Path.{◌≡◌}
use Rattle.common.specs.Lists.{passing}
use Rattle.common.specs.Decimal.{is_digit_at, spelled}
use Rattle.ccl.proofs.cin.leading_digits.Given as goal

abbrev pub invariant-loop-count : goal.invariant-loop-count
invariant-loop-count l = (l.number ≡ spelled l.count l.s) × (passing l.count (is_digit_at l.s) ≡ l.count)
