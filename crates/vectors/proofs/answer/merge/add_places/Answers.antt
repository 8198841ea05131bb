-- `vectors::answer::merge::add_places` meets its contract: a turn adds a place. Assumes nothing.
use borrow.Author.Rules.{rules}
use Rattle.append.proofs.AppendLaws.{after, stays, adding_none, adding_more, adding_end}
use Rattle.vectors.proofs.answer.merge.add_places.Goals as goal

pub loop-place-init : goal.loop-place-init
loop-place-init c = adding_none

pub loop-place-preserved : goal.loop-place-preserved
loop-place-preserved c = adding_more c.loop-place.invariant (search rules) c.add_key.ensures

pub returns : goal.returns
returns c =
    after _ _ _ _ c.add.ensures (adding_end c.loop-place.invariant c.loop-place-test.false (c.loop-place.invariant.fits_before (stays _ _ _ c.add.ensures)))
