-- `vectors::answer::fascn::bit_digit` meets its contract. Assumes nothing.
use borrow.Author.Rules.{rules}
use Rattle.card.specs.Fascn.{bit_at}
use Rattle.vectors.proofs.answer.fascn.bit_digit.Goals as goal

pub returns : goal.returns
unfolding bit_at
returns c = search rules
