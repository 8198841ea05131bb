-- `vectors::answer::calls::run_call` meets its contract: by the call. Assumes nothing.
use mathlib.Core.Path.{refl, ◌∙◌}
use Rattle.session.specs.Operation.{stamp_answer}
use Rattle.vectors.specs.CallsText.{direct_text, after_call, buffer_after}
use Rattle.vectors.proofs.CallsLaws.{same_host, left_by_answer}
use Rattle.vectors.proofs.answer.calls.run_call.Goals as goal

pub returns-in-Open : goal.returns-in-Open
unfolding direct_text after_call buffer_after
returns-in-Open c = rw c.in-Open.is (record { text = c.run_open.ensures.text; host = same_host c.run_open.ensures.session refl; holds = refl })

pub returns-in-Command : goal.returns-in-Command
unfolding direct_text after_call buffer_after
returns-in-Command c = rw c.in-Command.is (record { text = c.run_command.ensures.text; host = same_host c.run_command.ensures.session refl; holds = c.run_command.ensures.holds })

pub returns-in-Answer : goal.returns-in-Answer
unfolding direct_text after_call buffer_after
returns-in-Answer c = rw c.in-Answer.is (record { text = c.run_answer.ensures.text; host = same_host c.run_answer.ensures.session (c.run_answer.ensures.holds ∙ left_by_answer _ _ _); holds = refl })

pub returns-in-Verdict : goal.returns-in-Verdict
unfolding direct_text after_call buffer_after
returns-in-Verdict c = rw c.in-Verdict.is (record { text = c.run_verdict.ensures.text; host = same_host c.run_verdict.ensures.session refl; holds = refl })

pub returns-in-Preview : goal.returns-in-Preview
unfolding direct_text after_call buffer_after
returns-in-Preview c = rw c.in-Preview.is (record { text = c.run_preview.ensures.text; host = refl; holds = c.run_preview.ensures.holds })

pub returns-in-Stamp : goal.returns-in-Stamp
unfolding direct_text after_call buffer_after stamp_answer
returns-in-Stamp c = rw c.in-Stamp.is (record { text = c.run_stamp.ensures.text; host = refl; holds = c.run_stamp.ensures.holds })

pub returns-in-Field : goal.returns-in-Field
unfolding direct_text after_call buffer_after
returns-in-Field c = rw c.in-Field.is (record { text = c.run_field.ensures; host = refl; holds = refl })
