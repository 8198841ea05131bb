-- `card::fascn::pack` meets its contract: each return is where its test was decided. Assumes nothing.
use Rattle.card.specs.Fascn.{pack_refusal, pack_of}
use Rattle.card.proofs.CharacterLaws.{bytes_chars}
use Rattle.card.proofs.fascn.pack.Goals as goal

pub returns-then-not-all_decimal : goal.returns-then-not-all_decimal
unfolding pack_of pack_refusal
returns-then-not-all_decimal c = rw (← c.all_decimal.ensures, c.if-not-all_decimal.true)

pub returns : goal.returns
unfolding pack_of pack_refusal
returns c =
    rw (← c.all_decimal.ensures, c.if-not-all_decimal.false, c.bytes_of.ensures, c.characters_of-c.ensures, bytes_chars)
