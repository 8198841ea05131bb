-- `vectors::line::add_answer_of` meets its contract: the parts of the line. Assumes nothing.
use mathlib.Core.Path.{ap, ◌∙◌}
use Prim.Native.Nat.{ℕ, ◌+◌}
use lib.ListN.{drop}
use Rattle.vectors.specs.Line.{after_place, first_word, after_word, answer_of_line}
use Rattle.vectors.proofs.line.add_answer_of.Goals as goal

pub returns : goal.returns
unfolding answer_of_line after_place first_word after_word
returns c =
    let named = c.after-named.ensures ∙ ap (λ (k : ℕ). drop (k + 2) c.args.s.now) c.before_first.ensures.is in
    rw (← named, ← c.before_first-n.ensures.is, ← c.front.ensures, ← c.after.ensures) c.add_call.ensures
