-- `host::cards::gate_unpack` meets its contract: written where it is accepted. Assumes nothing.
use mathlib.Core.Path.{refl}
use lib.ListN.{replicate}
use Rattle.card.specs.Fascn.{fascn_digits, unpack_number, unpack_never_zero}
use Rattle.common.specs.Refusal.{value_in}
use Rattle.host.proofs.AnswerLaws.{written_where}
use Rattle.host.proofs.cards.gate_unpack.Goals as goal

pub returns : goal.returns
returns c =
    let w = written_where unpack_number unpack_never_zero (value_in (replicate fascn_digits 0)) (λ v. refl) c.args.digits.now c.unpack.result c.unpack.ensures c.write_value.ensures.number c.write_value.ensures.is in
    record { number = w.0; is = w.1 }
