-- `vectors::answer::calls::date_in` meets its contract: four bytes, the highest first. Assumes nothing.
use native.Mathlib.Omega.{arith}
use Rattle.common.specs.Lists.{number}
use Rattle.vectors.specs.CallsText.{date_in}
use Rattle.vectors.proofs.answer.calls.date_in.Goals as goal

pub returns : goal.returns
unfolding date_in number
returns c = omega arith
