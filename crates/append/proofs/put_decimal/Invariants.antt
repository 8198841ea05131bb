-- `append::put_decimal` meets its contract: a turn stores the last digit of what is left of the number. Assumes nothing.
use mathlib.Core.Path.{◌≡◌}
use mathlib.Core.List.{◌++◌}
use Prim.Native.Nat.{◌+◌, ◌^◌, ◌<◌}
use lib.ListN.{drop}
use Rattle.append.specs.Append.{number_text, decimal_last}
use Rattle.append.proofs.put_decimal.Given as goal

abbrev pub invariant-loop-rest : goal.invariant-loop-rest
invariant-loop-rest l = (l.k < 20) × (l.rest < 10 ^ (l.k + 1)) × (decimal_last (l.k + 1) l.rest ++ drop (l.k + 1) l.out ≡ number_text l.n)

abbrev pub decreases-loop-rest : goal.decreases-loop-rest
decreases-loop-rest l = l.rest
