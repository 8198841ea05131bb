-- `gate_lines::state::Gate::new` meets its contract. Assumes nothing.
use Rattle.session.specs.Tables.{object_size}
use Rattle.gate_lines.proofs.state.Gate.new.Goals as goal

pub returns : goal.returns
unfolding object_size
returns c = rw c.dead_session.ensures
