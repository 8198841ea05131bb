-- `vectors::input::text_of_last` meets its contract: one text or none. Assumes nothing.
use mathlib.Core.Path.{sym, ap, ◌∙◌}
use mathlib.Core.Bool.{Bool, cond}
use mathlib.Core.List.{List, []}
use Prim.Native.Nat.{zero-le}
use Rattle.append.proofs.AppendLaws.{added_none}
use Rattle.vectors.specs.Input.{last_line_text}
use Rattle.vectors.specs.Line.{line_text}
use Rattle.vectors.specs.Out.{with_text}
use Rattle.vectors.proofs.input.text_of_last.Goals as goal

pub returns-then-not-is_empty : goal.returns-then-not-is_empty
unfolding last_line_text
returns-then-not-is_empty c =
    let e = sym c.is_empty.ensures ∙ c.if-not-is_empty.true in
    c.add_line.ensures ∙ ap (λ (l : List _). with_text l (line_text c.args.s.now)) c.clear.ensures ∙ ap (λ (b : Bool). with_text [] (cond b [] (line_text c.args.s.now))) (sym e)

pub returns-else-not-is_empty : goal.returns-else-not-is_empty
unfolding last_line_text
returns-else-not-is_empty c =
    let e = sym c.is_empty.ensures ∙ c.if-not-is_empty.false in
    c.clear.ensures ∙ added_none _ [] zero-le ∙ ap (λ (b : Bool). with_text [] (cond b [] (line_text c.args.s.now))) (sym e)
