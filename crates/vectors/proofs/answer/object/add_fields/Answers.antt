-- `vectors::answer::object::add_fields` meets its contract: a turn adds a field. Assumes nothing.
use borrow.Author.Rules.{rules}
use native.Mathlib.Omega.{arith}
use Rattle.append.proofs.AppendLaws.{adding_none, adding_more, adding_end}
use Rattle.vectors.proofs.answer.object.add_fields.Goals as goal

pub loop-i-init : goal.loop-i-init
loop-i-init c = adding_none

pub loop-i-preserved : goal.loop-i-preserved
loop-i-preserved c = adding_more c.loop-i.invariant (search rules) c.add_field.ensures

pub returns : goal.returns
returns c = adding_end c.loop-i.invariant (search rules) (c.loop-i.invariant.fits (omega arith))
