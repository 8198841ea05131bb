-- `vectors::answer::call_of` meets its contract: no row before this one has the name. Assumes nothing.
use mathlib.Core.Path.{◌≡◌}
use lib.ListN.{drop}
use Rattle.vectors.specs.Answer.{call_named}
use Rattle.vectors.proofs.RowLaws.{among}
use Rattle.vectors.proofs.answer.call_of.Given as goal

abbrev pub invariant-loop-word : goal.invariant-loop-word
invariant-loop-word l = among (drop l.word-index l.word-items) l.name ≡ call_named l.name
