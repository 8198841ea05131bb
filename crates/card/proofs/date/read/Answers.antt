-- `card::date::read` meets its contract: a turn adds a digit, and all are tested after it. Assumes nothing.
use mathlib.Core.Path.{◌≡◌, refl, sym, ap, ◌∙◌}
use mathlib.Core.Bool.{cond, ◌&&◌}
use mathlib.Core.List.{List}
use Prim.Native.Nat.{ℕ, ◌+◌, ◌*◌, ◌^◌, ◌<◌}
use native.Mathlib.Omega.{arith}
use borrow.Author.Tests.{tests}
use lib.Dec.{leb}
use lib.ListN.{length}
use Rattle.std.specs.Array.{IsWholeChunk}
use Rattle.std.proofs.Common.{rules}
use Rattle.std.proofs.lemmas.Iterator.{YieldsList-from_slice}
use Rattle.std.proofs.lemmas.Iterator.Search.{all_from_yields_List}
use Rattle.common.specs.Lists.{all, number}
use Rattle.common.specs.Decimal.{is_digit_at, spelled}
use Rattle.common.proofs.DecimalLaws.{spelled_more, spelled_room}
use Rattle.common.proofs.FoldLaws.{list_all_is}
use Rattle.card.specs.Date.{date_of, real_date}
use Rattle.card.proofs.DateLaws.{date_is, not_eight}
use Rattle.card.proofs.date.read.Goals as goal
use Rattle.card.proofs.date.read.Goals.{After-all, In-Ok, else-all-via-then-all+else-real, else-all-via-else-all}

-- bytes that are an array's are the array, and there are as many
pub whole : (c : In-Ok) → IsWholeChunk c.args.s.now c.in-Ok.digits 8
whole c = rw c.in-Ok.is at c.try_from.ensures.1

pub returns-in_default : goal.returns-in_default
returns-in_default c = sym (not_eight _ (rw c.in_default.is at c.try_from.ensures.1))

-- while digits are left to read, n is small
small : (s : List ℕ) (i : ℕ) {n : ℕ} → i < 8 → n ≡ spelled i s → n < 2 * 10 ^ 7
small s i h e = spelled_room s i 7 (omega arith) e

pub loop-digit-init : goal.loop-digit-init
unfolding spelled number
loop-digit-init c = refl

pub overflow_mul-n : goal.overflow_mul-n
overflow_mul-n c = omega (arith, small c.in-Ok.digits c.loop-digit.digit-index (omega arith) c.loop-digit.invariant)

pub overflow_add-n : goal.overflow_add-n
overflow_add-n c = omega (arith, small c.in-Ok.digits c.loop-digit.digit-index (omega arith) c.loop-digit.invariant)

pub loop-digit-preserved : goal.loop-digit-preserved
loop-digit-preserved c = ap (λ (x : ℕ). c.loop-digit.n * 10 + x) c.from.ensures ∙ spelled_more c.in-Ok.digits c.loop-digit.digit-index c.loop-digit.invariant

-- the test of all digits, in the definition's words
tested : (c : After-all) → c.all.result ≡ all (length c.in-Ok.digits) (is_digit_at c.in-Ok.digits)
unfolding is_digit_at
tested c =
    all_from_yields_List (λ x. leb 0x30 x && leb x 0x39) _ _ _ c.all.ensures.ran (YieldsList-from_slice c.in-Ok.digits cc) (λ x b q k. search (rules, tests))
    ∙ list_all_is (λ x. leb 0x30 x && leb x 0x39) c.in-Ok.digits

-- after the loop, the two tests decide
decided : (c : After-all) → date_of c.args.s.now ≡ cond (c.all.result && real_date c.loop-digit.n) (0, c.loop-digit.n) (22, 0)
decided c =
    let w = whole (goal.at.After-all c).In-Ok in
    let eight : length c.in-Ok.digits ≡ 8 = ap length w.same ∙ w.long in
    let whole : c.loop-digit.digit-index ≡ 8 = omega (arith, eight) in
    let n : c.loop-digit.n ≡ spelled c.loop-digit.digit-index c.in-Ok.digits = c.loop-digit.invariant in
    rw (← w.same) (date_is c.in-Ok.digits eight whole n (tested c ∙ ap (λ (m : ℕ). all m (is_digit_at c.in-Ok.digits)) (eight ∙ sym whole)) refl)

pub returns-then-real : goal.returns-then-real
returns-then-real c = rw (decided (goal.at.returns-then-real c).After-all, c.if-all.true, ← c.real.ensures, c.if-real.true)

pub returns-else-all : goal.returns-else-all
returns-else-all c = elim c.else-all.branch [
  | else-all-via-then-all+else-real w ↦ rw (decided (goal.at.returns-else-all c).After-all, w.if-all.true, ← w.real.ensures, w.if-real.false)
  | else-all-via-else-all w ↦ rw (decided (goal.at.returns-else-all c).After-all, w.if-all.false)
]
