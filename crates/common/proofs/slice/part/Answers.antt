-- `common::slice::part` meets its contract: the first bytes of what follows. Assumes nothing.
use Rattle.common.proofs.slice.part.Goals as goal

pub returns : goal.returns
returns c = rw (← c.after.ensures) c.front.ensures
