-- `gate_lines::line::date_in` meets its contract: a turn adds a decimal digit. Assumes nothing.
use mathlib.Core.Path.{◌≡◌}
use Prim.Native.Nat.{◌≤◌}
use lib.ListN.{drop}
use Rattle.common.specs.Decimal.{spelled}
use Rattle.gate_lines.proofs.line.date_in.Given as goal

abbrev pub invariant-loop-x : goal.invariant-loop-x
invariant-loop-x l = (l.x-index ≤ 8) × (l.n ≡ spelled l.x-index (drop 8 l.s))
