-- `card::fascn::order::marks_in` meets its contract: the marks are tested one after another. Assumes nothing.
use Rattle.card.specs.Fascn.{marks_from}
use mathlib.Core.Bool.{and_assoc, and-true}
use Rattle.card.proofs.fascn.order.marks_in.Goals as goal

pub returns : goal.returns
unfolding marks_from
returns c = simp (and_assoc, and-true)
