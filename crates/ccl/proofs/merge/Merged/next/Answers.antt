-- `ccl::merge::Merged::next` meets its contract: a case for each order of the two next keys. Assumes nothing.
use Rattle.ccl.proofs.MergeCodeLaws.{next_first, next_second, next_none_a, next_none_b}
use Rattle.ccl.proofs.merge.Merged.next.Goals as goal

pub returns-in_err-x : goal.returns-in_err-x
returns-in_err-x c = rw c.from_residual.ensures (next_none_a c.args.self.now.a.now c.args.self.now.b.now c.in_err-x.ensures.item.3)

pub returns-in_err-y : goal.returns-in_err-y
returns-in_err-y c = rw c.from_residual-in_err-y.ensures (next_none_b c.args.self.now.a.now c.args.self.now.b.now c.in_err-y.ensures.item.3)

pub returns-then-x-y : goal.returns-then-x-y
returns-then-x-y c =
    let x = c.in_ok-x.ensures.item.3 in
    let y = c.in_ok-y.ensures.item.3 in
    next_first c.args.self.now.a.now c.args.self.now.b.now x.0 y.0 (x.1 0) (y.1 0) c.if-x-y.true

pub returns : goal.returns
returns c =
    let x = c.in_ok-x.ensures.item.3 in
    let y = c.in_ok-y.ensures.item.3 in
    next_second c.args.self.now.a.now c.args.self.now.b.now x.0 y.0 (x.1 0) (y.1 0) c.if-x-y.false c.from.ensures
