-- `vectors::answer::fascn::add_digit_codes` meets its contract: a turn adds a line. Assumes nothing.
use borrow.Author.Rules.{rules}
use native.Mathlib.Omega.{arith}
use Rattle.append.proofs.AppendLaws.{adding_none, adding_more, adding_end}
use Rattle.vectors.proofs.answer.fascn.add_digit_codes.Goals as goal

pub loop-x-init : goal.loop-x-init
loop-x-init c = adding_none

pub loop-x-preserved : goal.loop-x-preserved
loop-x-preserved c = adding_more c.loop-x.invariant (search rules) c.add_code.ensures

pub returns : goal.returns
returns c = adding_end c.loop-x.invariant (search rules) (c.loop-x.invariant.fits (omega arith))
