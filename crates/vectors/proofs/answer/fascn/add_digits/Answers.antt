-- `vectors::answer::fascn::add_digits` meets its contract: a turn adds a digit. Assumes nothing.
use Rattle.append.proofs.AppendLaws.{adding_none, adding_more, adding_end}
use native.Mathlib.Omega.{arith}
use Rattle.vectors.proofs.answer.fascn.add_digits.Goals as goal

pub loop-k-init : goal.loop-k-init
loop-k-init c = adding_none

pub loop-k-preserved : goal.loop-k-preserved
loop-k-preserved c = adding_more c.loop-k.invariant c.loop-k-test.true c.add_digit.ensures

pub returns : goal.returns
returns c = adding_end c.loop-k.invariant c.loop-k-test.false (c.loop-k.invariant.fits (omega (arith, c.loop-k-test.false)))
