-- `vectors::answer::merge::key_in` meets its contract: eight bytes, the highest first. Assumes nothing.
use native.Mathlib.Omega.{arith}
use Rattle.common.specs.Lists.{number}
use Rattle.vectors.specs.MergeText.{key_in}
use Rattle.vectors.proofs.answer.merge.key_in.Goals as goal

pub returns : goal.returns
unfolding key_in number
returns c = omega arith
