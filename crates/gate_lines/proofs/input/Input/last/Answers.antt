-- `gate_lines::input::Input::last` meets its contract: a line that lacks its 0A is carried out where it has a byte. Assumes nothing.
use mathlib.Core.Path.{sym, ap, ◌∙◌}
use borrow.Author.Tests.{eqb-true, eqb-false}
use lib.Dec.{eqb}
use lib.ListN.{length}
use Rattle.gate_lines.specs.Input.{InputState}
use Rattle.gate_lines.proofs.FeedLaws.{none_last, line_last}
use Rattle.gate_lines.proofs.input.Input.last.Goals as goal

pub returns-then-is_empty : goal.returns-then-is_empty
returns-then-is_empty c =
    let f = none_last c.self.inside.gate c.self.inside.line c.new.result c.self.view_is (eqb-true _ _ (sym c.is_empty.ensures ∙ c.if-is_empty.true)) c.new.ensures in
    record { state = f.state; prints = f.prints; for_every_input = f.for_every_input }

pub returns : goal.returns
returns c =
    let size = c.is_empty.ensures ∙ ap (λ (m : InputState). eqb (length m.held) 0) c.self.view_is in
    let f = line_last c.args.self.now c.line_done.new.self c.line_done.result (eqb-false _ _ (sym size ∙ c.if-is_empty.false)) c.line_done.ensures.state c.line_done.ensures.prints in
    record { state = f.state; prints = f.prints; for_every_input = f.for_every_input }
