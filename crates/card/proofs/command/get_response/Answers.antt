-- `card::command::get_response` meets its contract: each store lengthens the front. Assumes nothing.
use mathlib.Core.Path.{refl, ◌∙◌}
use native.Mathlib.Omega.{arith}
use Rattle.card.specs.Command.{get_response_bytes, get_response_of}
use Rattle.common.proofs.StoreLaws.{store_first, store_next}
use Rattle.card.proofs.CommandLaws.{command_fits, command_short}
use Rattle.card.proofs.command.get_response.Goals as goal

pub returns-then-out-lt-GET_RESPONSE_BYTES : goal.returns-then-out-lt-GET_RESPONSE_BYTES
unfolding get_response_bytes get_response_of
returns-then-out-lt-GET_RESPONSE_BYTES c = command_short (get_response_bytes c.args.second) _ c.if-out-lt-GET_RESPONSE_BYTES.true

pub returns : goal.returns
unfolding get_response_bytes get_response_of
returns c =
    let first = c.store.ensures ∙ store_first _ _ (omega arith) in
    command_fits (get_response_bytes c.args.second) c.args.out.now c.if-out-lt-GET_RESPONSE_BYTES.false refl (c.store-2.ensures ∙ store_next _ _ _ first refl (omega arith))
