-- `card::fascn::characters::characters_in` meets its contract: a turn stores the eight characters of five bytes. Assumes nothing.
use mathlib.Core.Path.{refl, ap, ◌∙◌}
use Prim.Native.Nat.{◌+◌, ◌-◌, ◌*◌, ◌/◌, ◌%◌, ◌^◌, ◌≤◌}
use borrow.Author.Rules.{rules}
use lib.ListN.{length, replicate}
use Rattle.common.proofs.ListsLaws.{length-written}
use Rattle.common.proofs.LoopLaws.{writing_none, writing_to, writing_whole}
use Rattle.common.proofs.StoreLaws.{length_part, part_written, number_part}
use Rattle.card.specs.FascnCode.{chars_in}
use Rattle.card.proofs.CharacterLaws.{regrouped_back}
use Rattle.card.proofs.fascn.characters.characters_in.Goals as goal

pub loop-g-preserved : goal.loop-g-preserved
unfolding chars_in
loop-g-preserved c =
    let at = 8 * c.loop-g.g in
    let within : 5 * c.loop-g.g + 5 ≤ length c.args.s.now = search rules in
    let inside : 8 * c.loop-g.g + 8 ≤ length c.loop-g.c = search rules in
    let joined = number_part c.args.s.now (5 * c.loop-g.g) 5 (2 ^ 8) within c.number_in-w.ensures in
    let spread = part_written c.loop-g.c at 8 (λ j. c.number_in-w.result / 2 ^ (5 * (8 - 1 - j)) % 2 ^ 5) (rw (length_part c.loop-g.c at 8 inside) at c.put_digits.ensures) in
    writing_to c.loop-g.invariant (search rules) (ap length spread ∙ length-written c.loop-g.c at 8 _ inside ∙ c.loop-g.invariant.long)
    (regrouped_back 8 5 5 8 refl _ c.loop-g.g (replicate 40 0) joined c.loop-g.invariant.is spread)

pub loop-g-init : goal.loop-g-init
unfolding chars_in
loop-g-init c = writing_none (search rules)

pub returns : goal.returns
unfolding chars_in
returns c = writing_whole c.loop-g.invariant (search rules) refl
