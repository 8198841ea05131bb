-- `session::range::part_inside` meets its contract: its end lies inside. Assumes nothing.
use mathlib.Core.Path.{refl}
use borrow.Author.Rules.{rules}
use Rattle.session.specs.Tables.{object_size}
use Rattle.session.proofs.FigureLaws.{object_small}
use Rattle.session.proofs.range.part_inside.Goals as goal

pub returns : goal.returns
unfolding object_size
returns c = refl

pub overflow_add-result : goal.overflow_add-result
overflow_add-result c = search (object_small, rules)

pub overflow_add-result-2 : goal.overflow_add-result-2
overflow_add-result-2 c = search (object_small, rules)
