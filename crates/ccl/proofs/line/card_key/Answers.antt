-- `ccl::line::card_key` meets its contract: the two strings are the texts of the lowest and the highest key. Assumes nothing.
use mathlib.Core.Path.{◌≡◌, sym, ◌∙◌}
use native.Mathlib.Omega.{arith}
use Rattle.common.specs.Lists.{list_of}
use Rattle.text.proofs.FormLaws.{between_at_lem}
use Rattle.common.specs.Decimal.{digit_of}
use Rattle.ccl.specs.Line.{card_text, good_card, card_of}
use Rattle.ccl.proofs.line.card_key.Goals as goal
use Rattle.ccl.proofs.line.card_key.Goals.{After-between}

good_is : (c : goal.After-between) → good_card c.args.s.now ≡ c.between.result
unfolding good_card card_text list_of digit_of
good_is c = sym c.between.ensures

pub line_key-requires : goal.line_key-requires
line_key-requires c =
    omega (arith, (between_at_lem _ _ c.args.s.now (sym c.between.ensures ∙ c.if-between.true)).0)

pub returns-then-between : goal.returns-then-between
unfolding card_of
returns-then-between c = rw (good_is (goal.at.returns-then-between c).After-between, c.if-between.true, c.line_key.ensures)

pub returns-else-between : goal.returns-else-between
unfolding card_of
returns-else-between c = rw (good_is (goal.at.returns-else-between c).After-between, c.if-between.false)
