-- `card::fascn::characters::put_digits` meets its contract: a turn stores digit j. Assumes nothing.
use mathlib.Core.Path.{refl}
use native.Mathlib.Omega.{arith}
use borrow.Author.Rules.{rules}
use Rattle.common.proofs.LoopLaws.{writing_none, writing_front, writing_whole}
use Rattle.common.proofs.NumberLaws.{one_shifted}
use Rattle.card.proofs.fascn.characters.put_digits.Goals as goal

pub loop-j-init : goal.loop-j-init
loop-j-init c = writing_none (search rules)

pub loop-j-preserved : goal.loop-j-preserved
loop-j-preserved c = writing_front c.loop-j.invariant (search rules) (rw (one_shifted c.args.bits (omega arith)))

pub returns : goal.returns
returns c = writing_whole c.loop-j.invariant (search rules) refl
