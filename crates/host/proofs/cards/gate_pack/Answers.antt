-- `host::cards::gate_pack` meets its contract: written where it is accepted. Assumes nothing.
use mathlib.Core.Path.{refl}
use lib.ListN.{replicate}
use Rattle.card.specs.Fascn.{fascn_bytes, pack_number, pack_never_zero}
use Rattle.common.specs.Refusal.{value_in}
use Rattle.host.proofs.AnswerLaws.{written_where}
use Rattle.host.proofs.cards.gate_pack.Goals as goal

pub returns : goal.returns
returns c =
    let w = written_where pack_number pack_never_zero (value_in (replicate fascn_bytes 0)) (λ v. refl) c.args.fascn.now c.pack.result c.pack.ensures c.write_value.ensures.number c.write_value.ensures.is in
    record { number = w.0; is = w.1 }
