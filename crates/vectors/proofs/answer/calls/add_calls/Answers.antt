-- `vectors::answer::calls::add_calls` meets its contract: the calls are made from the dead session on. Assumes nothing.
use mathlib.Core.Path.{ap, ◌∙◌}
use lib.ListN.{replicate}
use Rattle.session.specs.Tables.{object_size}
use Rattle.session.specs.declared.state.Session.{Session}
use Rattle.vectors.specs.CallsText.{call_texts, calls_text}
use Rattle.vectors.specs.Out.{with_text}
use Rattle.vectors.proofs.CallsLaws.{host}
use Rattle.vectors.proofs.answer.calls.add_calls.Goals as goal

pub returns : goal.returns
unfolding calls_text object_size
returns c =
    c.run_calls.ensures.text
    ∙ ap (with_text c.args.out.now) (ap (λ (s : Session). call_texts (host s (replicate object_size 0)) c.args.s.now) c.dead_session.ensures)
