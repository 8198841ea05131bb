-- `session::state::Session::write_initial` meets its contract: SELECT or GET DATA of crate card. Assumes nothing.
use mathlib.Core.Path.{sym, ◌∙◌}
use Prim.Native.Nat.{◌≤◌}
use native.Mathlib.Omega.{arith}
use lib.ListN.{length}
use lib.Seq.{length-take-le}
use Rattle.session.proofs.RangesLaws.{aid_in_range}
use Rattle.session.proofs.SendLaws.{select_written, get_data_written}
use Rattle.session.proofs.state.Session.write_initial.Goals as goal
use Rattle.session.proofs.state.Session.write_initial.Goals.{After-sized}

aid_inside : (c : goal.After-sized) → c.args.self.now.opening.aid_len ≤ length c.args.self.now.opening.aid
aid_inside c = omega (arith, (aid_in_range c.args.self.now c.requires).1, c.sized.ensures)

pub shared_ref_as_front-select : goal.shared_ref_as_front-select
shared_ref_as_front-select c = (aid_in_range c.args.self.now c.requires).1

pub slice_bounds-select-end : goal.slice_bounds-select-end
slice_bounds-select-end c = sym (length-take-le _ _ (aid_inside (goal.at.slice_bounds-select-end c).After-sized))

pub returns-then-step-eq0 : goal.returns-then-step-eq0
returns-then-step-eq0 c = c.select.ensures ∙ select_written _ _ _ c.requires c.sized.ensures c.if-step-eq0.true

pub returns-else-step-eq0 : goal.returns-else-step-eq0
returns-else-step-eq0 c =
    c.get_data.ensures ∙ rw c.kind_at.ensures (get_data_written c.args.self.now c.args.last c.args.out.now c.if-step-eq0.false)
