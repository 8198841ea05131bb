-- `card::command::select` meets its contract: each store lengthens the front. Assumes nothing.
use mathlib.Core.Path.{refl, sym, ap, ◌∙◌}
use mathlib.Core.Bool.{not}
use native.Mathlib.Omega.{arith}
use Rattle.card.specs.Command.{with_last, select_bytes, select_of, command_written}
use Rattle.common.proofs.StoreLaws.{store_first, store_next}
use Rattle.card.proofs.CommandLaws.{select_length, length_last, select_last, aid_most_lem, command_fits, command_short}
use Rattle.card.proofs.command.select.Goals as goal

pub returns-then-not-good_aid : goal.returns-then-not-good_aid
unfolding select_of command_written
returns-then-not-good_aid c = rw (ap not (sym c.good_aid.ensures ∙ c.if-not-good_aid.true))

pub returns-then-out-total : goal.returns-then-out-total
unfolding select_of
returns-then-out-total c =
    let accepted = ap not (sym c.good_aid.ensures ∙ c.if-not-good_aid.false) in
    rw accepted (command_short (with_last (select_bytes c.args.aid.now) c.args.last) _ (rw (length_last, select_length) c.if-out-total.true))

pub overflow_cast-count : goal.overflow_cast-count
overflow_cast-count c =
    let accepted = ap not (sym c.good_aid.ensures ∙ c.if-not-good_aid.false) in
    omega (arith, aid_most_lem c.args.aid.now accepted)

pub returns : goal.returns
unfolding select_of
returns c =
    let accepted = ap not (sym c.good_aid.ensures ∙ c.if-not-good_aid.false) in
    let first = c.store.ensures ∙ store_first _ _ (omega arith) in
    let second = c.store-2.ensures ∙ store_next _ _ _ first refl (omega arith) in
    let third = c.store-3.ensures ∙ store_next _ _ _ second refl (omega arith) in
    rw accepted
    (command_fits (with_last (select_bytes c.args.aid.now) c.args.last) c.args.out.now (rw (length_last, select_length) c.if-out-total.false) (rw (length_last, select_length))
    (rw select_last (c.store-4.ensures ∙ store_next _ _ _ third (omega arith) (omega arith))))
