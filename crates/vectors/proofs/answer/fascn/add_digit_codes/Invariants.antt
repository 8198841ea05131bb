-- `vectors::answer::fascn::add_digit_codes` meets its contract: a turn adds a line. Assumes nothing.
use mathlib.Core.List.{[], ◌∷◌}
use Prim.Native.Nat.{◌+◌}
use Rattle.append.proofs.AppendLaws.{AddedSoFar}
use Rattle.vectors.specs.FascnText.{code_text}
use Rattle.vectors.proofs.answer.fascn.add_digit_codes.Given as goal

abbrev pub invariant-loop-x : goal.invariant-loop-x
invariant-loop-x l = AddedSoFar 1310720 l.initial.out 10 (λ j. code_text ((48 + j) ∷ []) j 1) l.x l.out
