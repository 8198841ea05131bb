-- `vectors::answer::object::eight_digits` meets its contract: two digits after two digits. Assumes nothing.
use native.Mathlib.Nat.{zero-add}
use Rattle.common.specs.Lists.{number}
use Rattle.vectors.specs.ObjectText.{eight_digits}
use Rattle.vectors.proofs.answer.object.eight_digits.Goals as goal

pub returns : goal.returns
unfolding eight_digits number
returns c =
    rw (c.two_digits.ensures.is, c.two_digits-2.ensures.is, c.two_digits-3.ensures.is, c.two_digits-4.ensures.is, zero-add)
