-- `card::fascn::unpack` meets its contract: the tests are those of the definition. Assumes nothing.
use mathlib.Core.Path.{◌≡◌, refl, sym, ap, ◌∙◌}
use mathlib.Core.Bool.{Bool, true, false, not, ◌&&◌}
use mathlib.Core.List.{List, [], ◌∷◌}
use Prim.Native.Nat.{ℕ}
use borrow.Author.Tests.{eq-eqb, ne_eqb}
use lib.Dec.{eqb}
use lib.ListN.{length, get_or}
use Rattle.std.specs.Array.{IsWholeChunk}
use Rattle.common.specs.Lists.{all}
use Rattle.common.specs.Refusal.{refusal_of}
use Rattle.card.specs.Fascn.{odd_at, values_in, digits_in, marks_in, decimal_at, unpack_refusal, unpack_answer, unpack_of}
use Rattle.card.specs.FascnCode.{check_digits}
use Rattle.card.proofs.FascnLaws.{unpack_is}
use Rattle.card.proofs.CharacterLaws.{values_chars, odd_chars}
use Rattle.card.proofs.fascn.unpack.Goals as goal
use Rattle.card.proofs.fascn.unpack.Goals.{In-Ok, After-all_decimal, After-all_odd, After-check_value, After-digits_in-d}

pub returns-in_default : goal.returns-in_default
unfolding unpack_of unpack_refusal
returns-in_default c = let other : length c.args.s.now ≡ 25 → ⊥ = rw c.in_default.is at c.try_from.ensures.1 in rw (ne_eqb _ _ other)

-- the array's bytes are those of s
whole : (c : In-Ok) → IsWholeChunk c.args.s.now c.in-Ok.bytes 25
whole c = rw c.in-Ok.is at c.try_from.ensures.1

long : (c : In-Ok) → length c.in-Ok.bytes ≡ 25
long c = ap length (whole c).same ∙ (whole c).long

-- the tests on the characters, in document 01's order
judged : (s : List ℕ) → length s ≡ 25 → (odd placed right : Bool) {d : List ℕ} → odd ≡ all 40 (odd_at s)
    → placed ≡ marks_in (values_in s) && all 32 (decimal_at (digits_in (values_in s)))
    → right ≡ eqb (get_or (values_in s) 39 0) (check_digits (digits_in (values_in s))) → d ≡ digits_in (values_in s)
    → unpack_answer (refusal_of ((16, not odd) ∷ (17, not placed) ∷ (18, not right) ∷ [])) d ≡ unpack_of s
judged s long odd placed right o p r d = rw (o, p, r, d) (unpack_is s long)

-- each test by what the code reads: the values of the bytes, and their digits
values : (c : goal.After-digits_in-d) → c.values_in-v.result ≡ values_in c.in-Ok.bytes
values c = c.values_in-v.ensures ∙ rw c.characters_in-c.ensures (values_chars c.in-Ok.bytes)

digits : (c : goal.After-digits_in-d) → c.digits_in-d.result ≡ digits_in (values_in c.in-Ok.bytes)
digits c = c.digits_in-d.ensures ∙ ap digits_in (values c)

odd : (c : goal.After-all_odd) → c.all_odd.result ≡ all 40 (odd_at c.in-Ok.bytes)
odd c = c.all_odd.ensures ∙ rw c.characters_in-c.ensures (odd_chars c.in-Ok.bytes)

placed : (c : goal.After-all_decimal) → (c.marks_in.result && c.all_decimal.result) ≡ marks_in (values_in c.in-Ok.bytes) && all 32 (decimal_at (digits_in (values_in c.in-Ok.bytes)))
placed c = rw (c.marks_in.ensures, c.all_decimal.ensures, c.digits_in-d.ensures, c.values_in-v.ensures, c.characters_in-c.ensures, values_chars c.in-Ok.bytes)

right : (c : goal.After-check_value) → eqb (get_or c.values_in-v.result 39 0) c.check_value.result ≡ eqb (get_or (values_in c.in-Ok.bytes) 39 0) (check_digits (digits_in (values_in c.in-Ok.bytes)))
right c = rw (c.check_value.ensures, c.digits_in-d.ensures, c.values_in-v.ensures, c.characters_in-c.ensures, values_chars c.in-Ok.bytes)

pub returns-then-not-all_odd : goal.returns-then-not-all_odd
returns-then-not-all_odd c =
    judged c.in-Ok.bytes (long (goal.at.returns-then-not-all_odd c).In-Ok) false _ _ (sym c.if-not-all_odd.true ∙ odd (goal.at.returns-then-not-all_odd c).After-all_odd) refl refl refl
    ∙ ap unpack_of (whole (goal.at.returns-then-not-all_odd c).In-Ok).same

pub returns-then-not-marks_in-all_decimal : goal.returns-then-not-marks_in-all_decimal
returns-then-not-marks_in-all_decimal c =
    let at = goal.at.returns-then-not-marks_in-all_decimal c in
    judged c.in-Ok.bytes (long at.In-Ok) true false _ (sym c.if-not-all_odd.false ∙ odd at.After-all_odd) (sym c.if-not-marks_in-all_decimal.true ∙ placed at.After-all_decimal) refl refl
    ∙ ap unpack_of (whole at.In-Ok).same

pub returns-then-v-check_value : goal.returns-then-v-check_value
returns-then-v-check_value c =
    let at = goal.at.returns-then-v-check_value c in
    judged c.in-Ok.bytes (long at.In-Ok) true true false (sym c.if-not-all_odd.false ∙ odd at.After-all_odd) (sym c.if-not-marks_in-all_decimal.false ∙ placed at.After-all_decimal)
    (sym (ne_eqb _ _ c.if-v-check_value.true) ∙ right at.After-check_value) refl
    ∙ ap unpack_of (whole at.In-Ok).same

pub returns-else-v-check_value : goal.returns-else-v-check_value
returns-else-v-check_value c =
    let at = goal.at.returns-else-v-check_value c in
    judged c.in-Ok.bytes (long at.In-Ok) true true true (sym c.if-not-all_odd.false ∙ odd at.After-all_odd) (sym c.if-not-marks_in-all_decimal.false ∙ placed at.After-all_decimal)
    (sym (eq-eqb _ _ c.if-v-check_value.false) ∙ right at.After-check_value) (digits at.After-digits_in-d)
    ∙ ap unpack_of (whole at.In-Ok).same
