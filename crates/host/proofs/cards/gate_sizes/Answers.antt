-- `host::cards::gate_sizes` meets its contract: each figure is the definition's. Assumes nothing.
use mathlib.Core.Path.{refl}
use Rattle.session.specs.Tables.{object_size, stamp_size}
use Rattle.host.proofs.cards.gate_sizes.Goals as goal

pub returns : goal.returns
unfolding object_size stamp_size
returns c = record { session = refl; object = refl; stamp = refl; command = refl; answer = refl; aid = (refl, refl); fascn = (refl, refl); line = refl }
