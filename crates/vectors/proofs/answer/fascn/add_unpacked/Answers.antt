-- `vectors::answer::fascn::add_unpacked` meets its contract: six texts. Assumes nothing.
use Rattle.append.proofs.AppendLaws.{after}
use Rattle.vectors.specs.FascnText.{unpacked_text}
use Rattle.vectors.proofs.answer.fascn.add_unpacked.Goals as goal

pub returns : goal.returns
unfolding unpacked_text
returns c =
    rw (← c.packed-again.ensures, ← c.key_of.ensures)
    (after _ _ _ _ (after _ _ _ _ (after _ _ _ _ (after _ _ _ _ (after _ _ _ _ c.add_digits.ensures c.add.ensures) c.add_character.ensures) c.add-2.ensures) c.add_decimal.ensures)
    c.add_again.ensures)
