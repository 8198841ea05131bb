-- `card::command::get_data` meets its contract: each store lengthens the front. Assumes nothing.
use mathlib.Core.Path.{refl, ◌∙◌}
use native.Mathlib.Omega.{arith}
use Rattle.card.specs.Command.{with_last, get_data_bytes, get_data_of}
use Rattle.common.proofs.StoreLaws.{store_first, store_next}
use Rattle.card.proofs.CommandLaws.{tag_length, get_data_length, length_last, get_data_last, command_fits, command_short}
use Rattle.card.proofs.command.get_data.Goals as goal

pub returns-then-out-lt-GET_DATA_BYTES : goal.returns-then-out-lt-GET_DATA_BYTES
unfolding get_data_of
returns-then-out-lt-GET_DATA_BYTES c =
    command_short (with_last (get_data_bytes c.args.kind) c.args.last) _ (rw (length_last, get_data_length) c.if-out-lt-GET_DATA_BYTES.true)

pub returns : goal.returns
unfolding get_data_of
returns c =
    let first = c.store.ensures ∙ store_first _ _ (omega arith) in
    let second = rw c.object_tag-tag.ensures at c.store-2.ensures ∙ store_next _ _ _ first refl (omega (arith, tag_length c.args.kind)) in
    command_fits (with_last (get_data_bytes c.args.kind) c.args.last) c.args.out.now (rw (length_last, get_data_length) c.if-out-lt-GET_DATA_BYTES.false) (rw (length_last, get_data_length))
    (rw get_data_last (c.store-3.ensures ∙ store_next _ _ _ second (rw tag_length) (omega (arith, tag_length c.args.kind))))
