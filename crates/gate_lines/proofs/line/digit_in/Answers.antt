-- `gate_lines::line::digit_in` meets its contract. Assumes nothing.
use native.Mathlib.Nat.{zero-add, zero-mul, add-zero}
use lib.Seq.{get_or-drop}
use Rattle.common.specs.Lists.{number}
use Rattle.common.specs.Decimal.{spelled}
use Rattle.gate_lines.proofs.line.digit_in.Goals as goal

pub returns : goal.returns
unfolding spelled number
returns c = simp (zero-mul, zero-add, get_or-drop, add-zero)
