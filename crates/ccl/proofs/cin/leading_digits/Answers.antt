-- `ccl::cin::leading_digits` meets its contract: a turn adds a digit, up to the first byte that is none. Assumes
-- nothing.
use mathlib.Core.Path.{◌≡◌, refl, sym, ap, ◌∙◌}
use Prim.Native.Nat.{ℕ, ◌+◌, ◌*◌, ◌%◌, ◌^◌, ◌≤◌, ◌<◌}
use native.Mathlib.Omega.{arith}
use lib.ListN.{length, get_or, length-take}
use Rattle.common.specs.Lists.{number, passing}
use Rattle.common.specs.Decimal.{is_digit_at, spelled}
use Rattle.common.proofs.DecimalLaws.{spelled_more, spelled_room}
use Rattle.common.proofs.PassingLaws.{passing_more, passing_stop}
use Rattle.ccl.proofs.VisualCodeLaws.{front_byte, leading_end}
use Rattle.ccl.specs.VisualCode.{leading_digits}
use Rattle.ccl.proofs.cin.leading_digits.Goals as goal
use Rattle.ccl.proofs.cin.leading_digits.Goals.{After-is_ascii_digit, After-front-front}

-- the byte that a turn looks at, and its test
byte_is : (c : goal.After-is_ascii_digit) → get_or c.front-front.result.now c.loop-count.count 0 ≡ get_or c.args.s.now c.loop-count.count 0
byte_is c = front_byte c.args.s.now c.loop-count.count c.front-front.ensures c.loop-count-test.true

digit_is : (c : goal.After-is_ascii_digit) → is_digit_at c.args.s.now c.loop-count.count ≡ c.is_ascii_digit.result
unfolding is_digit_at
digit_is c = rw (← byte_is c) (sym c.is_ascii_digit.ensures.value)

-- at most eleven bytes are looked at
most : (c : goal.After-front-front) → length c.front-front.result.now ≤ 11
most c = omega (arith, ap length c.front-front.ensures, length-take 11 c.args.s.now)

-- so the number stays small
small : (c : goal.After-is_ascii_digit) → c.loop-count.number < 2 * 10 ^ 10
small c = spelled_room c.args.s.now c.loop-count.count 10 (omega (arith, most (goal.at.After-is_ascii_digit c).After-front-front)) c.loop-count.invariant.0

pub loop-count-init : goal.loop-count-init
unfolding spelled number passing
loop-count-init c = (refl, refl)

pub returns-then-not-is_ascii_digit-clause-count : goal.returns-then-not-is_ascii_digit-clause-count
unfolding leading_digits
returns-then-not-is_ascii_digit-clause-count c =
    let a = (goal.at.returns-then-not-is_ascii_digit-clause-count c).After-is_ascii_digit in
    sym (passing_stop (is_digit_at c.args.s.now) c.loop-count.count 11 (omega (arith, most (goal.at.After-is_ascii_digit a).After-front-front)) c.loop-count.invariant.1 (digit_is a ∙ c.if-not-is_ascii_digit.true))

pub overflow_mul-number : goal.overflow_mul-number
overflow_mul-number c = omega (arith, small (goal.at.overflow_mul-number c).After-is_ascii_digit)

pub overflow_add-number : goal.overflow_add-number
overflow_add-number c = omega (arith, small (goal.at.overflow_add-number c).After-is_ascii_digit)

pub loop-count-preserved : goal.loop-count-preserved
loop-count-preserved c =
    let a = (goal.at.loop-count-preserved c).After-is_ascii_digit in (
      ap (λ (x : ℕ). c.loop-count.number * 10 + x) c.from.ensures ∙ ap (λ (x : ℕ). c.loop-count.number * 10 + x % 16) (byte_is a) ∙ spelled_more c.args.s.now c.loop-count.count c.loop-count.invariant.0,
      passing_more (is_digit_at c.args.s.now) c.loop-count.count c.loop-count.invariant.1 (digit_is a ∙ c.if-not-is_ascii_digit.false),
    )

pub returns : goal.returns
returns c =
    let e : c.loop-count.count ≡ length c.front-front.result.now = omega arith in
    rw (← e) (record { count = sym (leading_end c.args.s.now c.loop-count.count (omega (arith, e, ap length c.front-front.ensures, length-take 11 c.args.s.now)) c.loop-count.invariant.1); spells = c.loop-count.invariant.0 })
