-- `vectors::answer::fascn::add_character` meets its contract: five bits. Assumes nothing.
use mathlib.Core.Path.{ap, ◌∙◌}
use native.Mathlib.Nat.{add-zero}
use Rattle.common.specs.Lists.{list_of}
use Rattle.vectors.specs.FascnText.{character_text}
use Rattle.vectors.specs.Out.{with_text}
use Rattle.vectors.proofs.answer.fascn.add_character.Goals as goal

pub returns : goal.returns
unfolding character_text list_of
returns c =
    c.add.ensures
    ∙ ap (with_text c.args.out.now) (rw (c.bit_digit.ensures, c.bit_digit-2.ensures, c.bit_digit-3.ensures, c.bit_digit-4.ensures, c.bit_digit-5.ensures, add-zero))
