-- `host_examples::line::add_numbers` meets its contract: a turn adds a number. Assumes nothing.
use Rattle.append.proofs.AppendLaws.{after, stays, adding_none, adding_more, adding_end}
use Rattle.host_examples.specs.LineText.{numbers_part}
use Rattle.host_examples.proofs.line.add_numbers.Goals as goal

pub loop-n-init : goal.loop-n-init
loop-n-init c = adding_none

pub loop-n-preserved : goal.loop-n-preserved
loop-n-preserved c = adding_more c.loop-n.invariant c.loop-n-test.true c.add_number.ensures

pub returns : goal.returns
unfolding numbers_part
returns c = after _ _ _ _ c.add.ensures (adding_end c.loop-n.invariant c.loop-n-test.false (c.loop-n.invariant.fits_before (stays _ _ _ c.add.ensures)))
