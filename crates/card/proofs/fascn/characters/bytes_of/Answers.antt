-- `card::fascn::characters::bytes_of` meets its contract: a turn stores the five bytes of eight characters. Assumes nothing.
use mathlib.Core.Path.{refl, ap, ◌∙◌}
use Prim.Native.Nat.{◌+◌, ◌-◌, ◌*◌, ◌/◌, ◌%◌, ◌^◌, ◌≤◌}
use borrow.Author.Rules.{rules}
use lib.ListN.{length, replicate}
use Rattle.common.proofs.ListsLaws.{length-written}
use Rattle.common.proofs.LoopLaws.{writing_none, writing_to, writing_whole}
use Rattle.common.proofs.StoreLaws.{length_part, part_written, number_part}
use Rattle.card.specs.FascnCode.{bytes_of_chars}
use Rattle.card.proofs.CharacterLaws.{regrouped_back}
use Rattle.card.proofs.fascn.characters.bytes_of.Goals as goal

pub loop-g-preserved : goal.loop-g-preserved
unfolding bytes_of_chars
loop-g-preserved c =
    let at = 5 * c.loop-g.g in
    let within : 8 * c.loop-g.g + 8 ≤ length c.args.c.now = search rules in
    let inside : 5 * c.loop-g.g + 5 ≤ length c.loop-g.s = search rules in
    let joined = number_part c.args.c.now (8 * c.loop-g.g) 8 (2 ^ 5) within c.number_in-w.ensures in
    let spread = part_written c.loop-g.s at 5 (λ j. c.number_in-w.result / 2 ^ (8 * (5 - 1 - j)) % 2 ^ 8) (rw (length_part c.loop-g.s at 5 inside) at c.put_digits.ensures) in
    writing_to c.loop-g.invariant (search rules) (ap length spread ∙ length-written c.loop-g.s at 5 _ inside ∙ c.loop-g.invariant.long)
    (regrouped_back 5 8 8 5 refl _ c.loop-g.g (replicate 25 0) joined c.loop-g.invariant.is spread)

pub loop-g-init : goal.loop-g-init
unfolding bytes_of_chars
loop-g-init c = writing_none (search rules)

pub returns : goal.returns
unfolding bytes_of_chars
returns c = writing_whole c.loop-g.invariant (search rules) refl
