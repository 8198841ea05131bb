-- `gate_lines::state::Gate::end_text` meets its contract, by that of `reply::end_text`. Assumes nothing.
use mathlib.Core.Path.{ap, ◌∙◌}
use Rattle.gate_lines.specs.Gate.{Gate, end_text}
use Rattle.gate_lines.proofs.RunLaws.{end_promise}
use Rattle.gate_lines.proofs.state.Gate.end_text.Goals as goal

pub returns-clause-for_every_list : goal.returns-clause-for_every_list
returns-clause-for_every_list c = end_promise _ _ (c.end_text.ensures.is ∙ ap (λ (g : Gate). end_text g.session) c.self.view_is)
