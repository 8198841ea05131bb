-- `ccl::list::good_lines` meets its contract: the chain counts the good lines. Assumes nothing.
use mathlib.Core.Path.{◌≡◌, ap, ◌∙◌}
use native.Mathlib.Omega.{arith}
use borrow.Author.Tests.{tests}
use Rattle.std.proofs.Common.{rules}
use Rattle.std.proofs.lemmas.Iterator.Consumers.{count_from_yields_List}
use Rattle.std.proofs.lemmas.Iterator.Search.{YieldsList-from_take_while}
use Rattle.std.specs.Slice.Iter.{chunks_exact_rest, chunks_exact_size}
use Rattle.std.specs.Iterator.Adapters.{take_while_source}
use Rattle.std.proofs.lemmas.List.Folds.{length-prefix_len}
use Rattle.ccl.specs.Line.{good_line}
use Rattle.ccl.specs.ListText.{good_lines}
use Rattle.ccl.proofs.LinesLaws.{whole_lines, chunks_lines, good_front, good_most}
use Rattle.ccl.proofs.list.good_lines.Goals as goal
use Rattle.ccl.proofs.list.good_lines.Goals.{After-count}

-- the chain counts the lines before the first that is not good
counted : (c : goal.After-count) → c.count.result ≡ good_lines c.args.text.now
counted c =
    let text = c.args.text.now in
    let e = c.take_while.ensures.source in
    let lines = chunks_lines (take_while_source c.take_while.result) text (ap chunks_exact_rest e ∙ c.chunks_exact.ensures.rest) (ap chunks_exact_size e ∙ c.chunks_exact.ensures.size) in
    count_from_yields_List c.take_while.result c.count.result c.count.ensures.ran (YieldsList-from_take_while _ good_line lines c.take_while.ensures.closure c.take_while.ensures.done (λ x b q k. search (rules, tests)))
    ∙ length-prefix_len good_line (whole_lines text) ∙ good_front text

pub returns : goal.returns
returns c =
    let e = counted (goal.at.returns c).After-count in
    record { value = e; inside = omega (arith, e, good_most c.args.text.now) }
