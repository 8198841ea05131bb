-- `append::Text::add_decimal` meets its contract, by that of `append::add_decimal`. Assumes nothing.
use Rattle.append.proofs.LentLaws.{blank_added, text_added}
use Rattle.append.proofs.Text.add_decimal.Goals as goal

pub invariant_of-self : goal.invariant_of-self
invariant_of-self g c = blank_added g.row.N c.self.invariant c.self.told c.add_decimal-self-inside.ensures

pub returns : goal.returns
returns g c = text_added g.row.N c.self.told c.self.view_is c.add_decimal-self-inside.ensures
