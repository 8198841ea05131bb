-- `ccl::line::digits_of` meets its contract: a turn stores the digit before those that are stored. Assumes nothing.
use mathlib.Core.Path.{◌≡◌}
use Prim.Native.Nat.{ℕ, ◌-◌, ◌/◌, ◌^◌, ◌≤◌, ◌<◌}
use lib.ListN.{length, get_or}
use Rattle.common.specs.Decimal.{digit_of}
use Rattle.ccl.proofs.line.digits_of.Given as goal

abbrev pub invariant-loop-k : goal.invariant-loop-k
invariant-loop-k l = (l.k ≤ 16) × (l.rest ≡ l.initial.rest / 10 ^ (16 - l.k)) × (length l.d ≡ 16) × ((i : ℕ) → l.k ≤ i → i < 16 → get_or l.d i 0 ≡ digit_of 16 l.initial.rest i)
