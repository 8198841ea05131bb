-- `card::date::real` meets its contract: its tests are the definition's. Assumes nothing.
use Rattle.card.specs.Date.{real_date}
use Rattle.card.proofs.date.real.Goals as goal

pub returns : goal.returns
unfolding real_date
returns c = rw c.days_in.ensures
