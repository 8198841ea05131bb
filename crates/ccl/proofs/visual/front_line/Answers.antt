-- `ccl::visual::front_line` meets its contract: both sides make the same tests. Assumes nothing.
use mathlib.Core.Path.{◌≡◌, sym, ap, ◌∙◌}
use mathlib.Core.Bool.{Bool, cond, ◌&&◌}
use Prim.Native.Nat.{◌+◌, ◌≤◌}
use native.Mathlib.Omega.{arith}
use lib.Dec.{leb}
use lib.ListN.{take}
use Rattle.common.specs.Lists.{same_bytes}
use Rattle.ccl.specs.Visual.{cin_opens, cin_closes}
use Rattle.ccl.specs.VisualCode.{front_size, front_number}
use Rattle.ccl.proofs.VisualCodeLaws.{leading_most, starts_same}
use Rattle.ccl.proofs.visual.front_line.Goals as goal
use Rattle.ccl.proofs.visual.front_line.Goals.{After-starts_with, After-leading_digits-count}

-- at most eleven digits are counted
few : (c : goal.After-leading_digits-count) → c.leading_digits-count.result.count ≤ 11
few c = rw c.leading_digits-count.ensures.count (leading_most _)

-- the number, and the count of bytes by the tests
number_is : (c : goal.After-starts_with) → c.leading_digits-count.result.number ≡ front_number c.args.s.now
unfolding front_number
number_is c = rw (← c.after.ensures, ← c.leading_digits-count.ensures.count) c.leading_digits-count.ensures.spells

size_is : (c : goal.After-starts_with) → cond (c.starts_with.result && leb 1 c.leading_digits-count.result.count && leb c.leading_digits-count.result.count 10 && c.starts_with-closed.result) (6 + c.leading_digits-count.result.count + 3) 0 ≡ front_size c.args.s.now
unfolding front_size
size_is c =
    let opened : same_bytes (take 6 c.args.s.now) cin_opens ≡ c.starts_with.result = sym (c.starts_with.ensures.value ∙ starts_same c.args.s.now cin_opens) in
    let closed : same_bytes (take 3 c.after-2.result.now) cin_closes ≡ c.starts_with-closed.result = sym (c.starts_with-closed.ensures.value ∙ starts_same c.after-2.result.now cin_closes) in
    rw (← c.after.ensures, ← c.leading_digits-count.ensures.count, opened, ← c.after-2.ensures, closed)

pub overflow_add-count : goal.overflow_add-count
overflow_add-count c = omega (arith, few (goal.at.overflow_add-count c).After-leading_digits-count)

pub returns-then-starts_with-count : goal.returns-then-starts_with-count
returns-then-starts_with-count c =
    let a = (goal.at.returns-then-starts_with-count c).After-starts_with in
    (ap (λ (b : Bool). cond b (6 + c.leading_digits-count.result.count + 3) 0) (sym c.if-starts_with-count.true) ∙ size_is a, number_is a, omega arith)

pub returns-else-starts_with-count : goal.returns-else-starts_with-count
returns-else-starts_with-count c =
    sym (ap (λ (b : Bool). cond b (6 + c.leading_digits-count.result.count + 3) 0) (sym c.if-starts_with-count.false) ∙ size_is (goal.at.returns-else-starts_with-count c).After-starts_with)
