-- `vectors::answer::call_of` meets its contract: no row before this one has the name. Assumes nothing.
use mathlib.Core.Path.{refl, sym, ◌∙◌}
use Rattle.vectors.specs.Answer.{call_named}
use Rattle.vectors.proofs.RowLaws.{row_has, row_passed, rows_end}
use Rattle.vectors.proofs.answer.call_of.Goals as goal

pub loop-word-init : goal.loop-word-init
unfolding call_named
loop-word-init c = refl

pub returns-then-same : goal.returns-then-same
returns-then-same c = sym (row_has _ _ _ _ c.loop-word-test.true (sym c.same.ensures ∙ c.if-same.true)) ∙ c.loop-word.invariant

pub loop-word-preserved : goal.loop-word-preserved
loop-word-preserved c = sym (row_passed _ _ _ _ c.loop-word-test.true (sym c.same.ensures ∙ c.if-same.false)) ∙ c.loop-word.invariant

pub returns : goal.returns
returns c = sym (rows_end _ _ _ c.loop-word-test.false) ∙ c.loop-word.invariant
