-- `card::fascn::order::characters_of` meets its contract: it lays out the characters of the digits and the marks. Assumes nothing.
use Rattle.card.proofs.OrderLaws.{chars_in-order}
use Rattle.card.proofs.fascn.order.characters_of.Goals as goal

pub returns : goal.returns
returns c =
    rw (
      c.in_order.ensures,
      c.character_of-check.ensures,
      c.check_value.ensures,
      c.digit_characters-e.ensures,
    )
    (chars_in-order c.args.d.now)
