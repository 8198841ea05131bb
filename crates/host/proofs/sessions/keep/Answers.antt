-- `host::sessions::keep` meets its contract: the session is saved, or the image stays. Assumes nothing.
use mathlib.Core.Path.{◌≡◌}
use mathlib.Core.Bool.{false}
use borrow.Author.Tests.{eqb-false}
use lib.Dec.{eqb}
use Rattle.session.specs.Operation.{refusal_never_zero}
use Rattle.host.proofs.sessions.keep.Goals as goal

pub returns-in-Ok : goal.returns-in-Ok
returns-in-Ok g c = record { number = rw c.in-Ok.is; is = c.save.ensures.is; again = λ z. c.save.ensures.again }

pub returns-in-Err : goal.returns-in-Err
returns-in-Err g c =
    let not : eqb c.number.result 0 ≡ false = rw c.number.ensures (refusal_never_zero c.in-Err.e) in
    record { number = rw c.in-Err.is c.number.ensures; is = rw not; again = λ z. absurd (eqb-false c.number.result 0 not z) }
