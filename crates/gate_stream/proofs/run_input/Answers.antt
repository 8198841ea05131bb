-- `gate_stream::run_input` meets its contract: block after block is fed, each of a byte or more, and its text written. Assumes nothing.
use mathlib.Core.Path.{◌≡◌}
use native.Mathlib.Omega.{arith}
use borrow.Author.Rules.{rules}
use Rattle.std.proofs.Common.{Err}
use Rattle.gate_stream.proofs.StreamLaws.{fed_start, fed_on, fed_whole, fed_failed}
use Rattle.gate_stream.proofs.run_input.Goals as goal

pub loop-init : goal.loop-init
loop-init g c = fed_start _ _ _

pub returns-in_err-n : goal.returns-in_err-n
returns-in_err-n g c =
    let e : c.from_residual.result ≡ Err c.in_err-n.field-0.0 = search rules in
    rw e (fed_failed _ _ _ _ _ _ _ _ _ _ _ _ _ c.in_err-n.field-0.0 c.loop.invariant c.in_err-n.ensures.fails)

pub returns-then-n-eq0 : goal.returns-then-n-eq0
returns-then-n-eq0 g c =
    fed_whole _ _ _ _ _ _ _ (fed_on c.loop.counter c.loop.counter _ _ _ _ _ _ _ _ _ _ _ _ c.loop.invariant c.in_ok-n.ensures.block c.in_ok-n.ensures.written (omega arith))
    (c.in_ok-n.ensures.block.whole c.if-n-eq0.true)

pub loop-preserved : goal.loop-preserved
loop-preserved g c =
    fed_on _ _ _ _ _ _ _ _ _ _ _ _ _ _ c.loop.invariant c.in_ok-n.ensures.block c.in_ok-n.ensures.written (omega (arith, c.if-n-eq0.false))
