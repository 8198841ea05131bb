-- `vectors::answer::calls::run_stamp` meets its contract: the call's number and buffer. Assumes nothing.
use mathlib.Core.Path.{ap, ap₂, ◌∙◌}
use Prim.Native.Nat.{ℕ}
use Rattle.session.specs.Operation.{stamp_answer}
use Rattle.session.specs.declared.state.Session.{Session}
use Rattle.vectors.specs.CallsText.{stamp_word, buffer_text}
use Rattle.vectors.specs.Out.{with_text}
use Rattle.vectors.proofs.answer.calls.run_stamp.Goals as goal

pub returns-clause-text : goal.returns-clause-text
unfolding stamp_answer
returns-clause-text c =
    let number = c.number.ensures ∙ ap (λ (x : ℕ × Session). x.0) c.stamp-answered.ensures.result_value in
    c.add_buffer.ensures ∙ ap (with_text c.args.out.now) (ap₂ (buffer_text stamp_word) number c.stamp-answered.ensures.out_after)
