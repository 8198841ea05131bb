-- `append::Text::add` meets its contract, by that of `append::add`. Assumes nothing.
use Rattle.append.proofs.LentLaws.{blank_added, text_added}
use Rattle.append.proofs.Text.add.Goals as goal

pub invariant_of-self : goal.invariant_of-self
invariant_of-self g c = blank_added g.row.N c.self.invariant c.self.told c.add-self-inside.ensures

pub returns : goal.returns
returns g c = text_added g.row.N c.self.told c.self.view_is c.add-self-inside.ensures
