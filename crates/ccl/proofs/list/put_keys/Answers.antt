-- `ccl::list::put_keys` meets its contract: a turn stores the key of a line. Assumes nothing.
use mathlib.Core.Path.{◌≡◌, ap, ◌∙◌}
use mathlib.Core.List.{[], ◌∷◌, ◌++◌}
use Prim.Native.Nat.{◌+◌, ◌/◌, ◌<◌}
use native.Mathlib.Omega.{arith}
use lib.ListN.{length, length-append}
use Rattle.std.specs.Iterator.Adapters.{enumerate_source, enumerate_count}
use Rattle.std.specs.Slice.Iter.{chunks_exact_rest, chunks_exact_size, chunks_exact_steps}
use Rattle.std.proofs.lemmas.Iterator.{YieldsList}
use Rattle.common.proofs.LoopLaws.{writing_none, writing_front, writing_end}
use Rattle.ccl.specs.Line.{line_key}
use Rattle.ccl.specs.ListText.{key_at}
use Rattle.ccl.proofs.LinesLaws.{whole_lines, length_whole, whole_line, chunks_lines}
use Rattle.ccl.proofs.TurnLaws.{TurnOf, turn_of, turns_end}
use Rattle.ccl.proofs.list.put_keys.Goals as goal
use Rattle.ccl.proofs.list.put_keys.Goals.{In-Some, After-into_iter-i-iterator}

-- the lines that the loop gets
lines : (c : goal.After-into_iter-i-iterator) → YieldsList chunks_exact_steps (λ l. l.now) (enumerate_source c.into_iter-i-iterator.result) (whole_lines c.args.text.now)
lines c =
    let e = ap enumerate_source c.into_iter-i-iterator.ensures.into_iter_gives ∙ c.enumerate-i-items.ensures.source in
    chunks_lines (enumerate_source c.into_iter-i-iterator.result) c.args.text.now (ap chunks_exact_rest e ∙ c.chunks_exact.ensures.rest) (ap chunks_exact_size e ∙ c.chunks_exact.ensures.size)

start : (c : goal.After-into_iter-i-iterator) → enumerate_count c.into_iter-i-iterator.result ≡ 0
start c = ap enumerate_count c.into_iter-i-iterator.ensures.into_iter_gives ∙ c.enumerate-i-items.ensures.count

turn : (c : goal.In-Some) → TurnOf (λ l. l.now) (whole_lines c.args.text.now) c.loop-i.yielded (c.in-Some.i, c.in-Some.line)
turn c =
    let a = (goal.at.In-Some c).After-into_iter-i-iterator in
    turn_of c.into_iter-i-iterator.result (lines a) (start a) c.loop-i.yielded c.loop-i.i-iterator c.loop-i.yielded_by c.next.result c.next.new.self (c.in-Some.i, c.in-Some.line) c.in-Some.is c.next.ensures.steps

pub loop-i-init : goal.loop-i-init
loop-i-init c = writing_none (omega arith)

pub loop-i-preserved : goal.loop-i-preserved
unfolding key_at
loop-i-preserved c =
    let t = turn (goal.at.loop-i-preserved c).In-Some in
    let n : length (c.loop-i.yielded ++ ((c.in-Some.i, c.in-Some.line) ∷ [])) ≡ length c.loop-i.yielded + 1 = length-append c.loop-i.yielded ((c.in-Some.i, c.in-Some.line) ∷ []) in
    let h : length c.loop-i.yielded < length c.args.text.now / 32 = omega (arith, t.inside, length_whole c.args.text.now) in
    rw (n, t.place) (writing_front c.loop-i.invariant h (c.line_key.ensures ∙ ap line_key (t.item ∙ whole_line c.args.text.now (length c.loop-i.yielded) c.in-Some.line.now h)))

pub returns : goal.returns
returns c =
    let a = (goal.at.returns c).After-into_iter-i-iterator in
    let n : length c.loop-i.yielded ≡ length (whole_lines c.args.text.now) = turns_end c.into_iter-i-iterator.result (lines a) (start a) c.loop-i.yielded c.loop-i.i-iterator c.loop-i.yielded_by c.next.result c.next.new.self c.in-None.is c.next.ensures.steps in
    writing_end c.loop-i.invariant (omega (arith, n, length_whole c.args.text.now))
