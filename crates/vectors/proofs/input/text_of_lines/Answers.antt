-- `vectors::input::text_of_lines` meets its contract: a turn adds a line. Assumes nothing.
use mathlib.Core.Path.{refl, ap, ◌∙◌}
use mathlib.Core.List.{[]}
use Prim.Native.Nat.{zero-le}
use native.Mathlib.Omega.{arith}
use borrow.Author.Rules.{rules}
use Rattle.append.proofs.AppendLaws.{after, added_none}
use Rattle.vectors.specs.Input.{lines_text, rest_of}
use Rattle.vectors.specs.Out.{with_text}
use Rattle.vectors.proofs.InputLaws.{lines_more, lines_all}
use Rattle.vectors.proofs.input.text_of_lines.Goals as goal

pub loop-end-init : goal.loop-end-init
unfolding lines_text rest_of
loop-end-init c = (search rules, c.find-end.ensures.inside zero-le, c.find-end.ensures.is, refl, c.clear.ensures ∙ added_none 1310720 [] zero-le)

pub loop-end-preserved : goal.loop-end-preserved
loop-end-preserved c =
    let more = lines_more c.args.block.now c.loop-end.from c.loop-end.end c.loop-end.invariant.2 c.loop-end-test.true c.loop-end.invariant.3 in (
      omega arith,
      c.find-end-in-loop-end.ensures.inside (omega arith),
      c.find-end-in-loop-end.ensures.is,
      more.1,
      after _ _ _ _ c.loop-end.invariant.4 c.add_line.ensures ∙ ap (with_text []) more.0,
    )

pub returns : goal.returns
returns c =
    let all = lines_all c.args.block.now c.loop-end.from c.loop-end.end c.loop-end.invariant.2 c.loop-end-test.false c.loop-end.invariant.0 c.loop-end.invariant.3 in
    record { text = c.loop-end.invariant.4 ∙ ap (with_text []) all.0; rest = all.1; inside = c.loop-end.invariant.0 }
