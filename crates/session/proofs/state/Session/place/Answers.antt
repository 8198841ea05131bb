-- `session::state::Session::place` meets its contract: where no condition refuses the call, the part lies inside the buffer. Assumes nothing.
use mathlib.Core.Path.{◌≡◌, refl, sym, ◌∙◌}
use mathlib.Core.Bool.{Bool, true, false, not, ◌||◌}
use native.Mathlib.Omega.{arith}
use Prim.Native.Nat.{ℕ, ◌+◌, ◌≤◌, ◌<◌}
use borrow.Author.Tests.{ne_eqb}
use lib.Dec.{eqb}
use Rattle.std.proofs.Math.Bool.{or_assoc}
use Rattle.session.specs.Tables.{since, object_size, step_of_tag, step_read}
use Rattle.session.specs.Condition.{field_refused}
use Rattle.session.specs.Ranges.{in_range, out_of_range}
use Rattle.session.specs.Operation.{field_place}
use Rattle.session.specs.declared.state.Session.{Session}
use Rattle.session.proofs.FigureLaws.{object_small}
use Rattle.session.proofs.RangesLaws.{part-in_range}
use Rattle.session.proofs.CallLaws.{place_refused, field_accepted, place_read}
use Rattle.session.proofs.CallPromiseLaws.{place_promise}
use Rattle.session.proofs.state.Session.place.Goals as goal
use Rattle.session.proofs.state.Session.place.Goals.{After-base_of-base}

-- the tests of the code are the definition's
tests : (s : Session) (size tag : ℕ) {r q b : Bool} {k : ℕ} → r ≡ out_of_range s → k ≡ step_of_tag tag → 0 < k
    → q ≡ step_read s.opening.mode s.progress.step k → (r || not (eqb size object_size)) || not q ≡ b
    → out_of_range s || field_refused since s.opening.mode s.progress.step size tag ≡ b
tests s size tag {r = r} {k = k} rs ks pos qs e =
    rw (← rs, ← ks, ← qs, ne_eqb k 0 (λ z. omega arith)) (sym (or_assoc r (not (eqb size object_size)) _) ∙ e)

-- a tag that may not be asked for
no_step : (a b c : Bool) → a || (b || (true || c)) ≡ true
no_step true b c = refl
no_step false true c = refl
no_step false false c = refl

pub returns-in_default : goal.returns-in_default
unfolding object_size
returns-in_default c =
    let z : 0 ≡ step_of_tag c.args.tag = c.in_default.ensures.is in
    let e = place_refused c.args.self c.args.size c.args.tag (rw (← z) (no_step (out_of_range c.args.self) (not (eqb c.args.size object_size)) (not (step_read c.args.self.opening.mode c.args.self.progress.step 0)))) in
    record { is = e; inside = omega arith; for_every_list = place_promise c.args.self c.args.size c.args.tag e }

pub returns-then-out_of_range-size : goal.returns-then-out_of_range-size
unfolding object_size
returns-then-out_of_range-size c =
    let e = place_refused c.args.self c.args.size c.args.tag (tests c.args.self c.args.size c.args.tag c.out_of_range.ensures c.in-Some.ensures.is c.in-Some.ensures.found c.step_read-read.ensures c.if-out_of_range-size.true) in
    record { is = e; inside = omega arith; for_every_list = place_promise c.args.self c.args.size c.args.tag e }

-- past the tests
read : (c : goal.After-base_of-base) → out_of_range c.args.self || field_refused since c.args.self.opening.mode c.args.self.progress.step c.args.size c.args.tag ≡ false
unfolding object_size
read c = tests c.args.self c.args.size c.args.tag c.out_of_range.ensures c.in-Some.ensures.is c.in-Some.ensures.found c.step_read-read.ensures c.if-out_of_range-size.false

-- the session is in range, the buffer has its size
accepted : (c : goal.After-base_of-base) → (in_range c.args.self ≡ true) × (c.args.size ≡ object_size)
accepted c = field_accepted c.args.self c.args.size c.args.tag (read c)

-- and the part ends inside it
ends : (c : goal.After-base_of-base) → c.base_of-base.result + (c.part_for-part.result.start + c.part_for-part.result.len) ≤ object_size
ends c = rw (c.base_of-base.ensures, c.part_for-part.ensures) (part-in_range c.args.self c.in-Some.step c.args.tag (accepted c).0)

pub overflow_cast-base : goal.overflow_cast-base
overflow_cast-base c = omega (arith, ends (goal.at.overflow_cast-base c).After-base_of-base, object_small)

pub overflow_add-result : goal.overflow_add-result
overflow_add-result c = omega (arith, ends (goal.at.overflow_add-result c).After-base_of-base, object_small)

pub returns : goal.returns
unfolding object_size
returns c =
    let e : record { start = c.base_of-base.result + c.part_for-part.result.start; len = c.part_for-part.result.len } ≡ field_place c.args.self c.args.size c.args.tag =
    rw (c.base_of-base.ensures, c.part_for-part.ensures, c.in-Some.ensures.is) (place_read c.args.self c.args.size c.args.tag (read (goal.at.returns c).After-base_of-base)) in
    record { is = e; inside = omega (arith, ends (goal.at.returns c).After-base_of-base, (accepted (goal.at.returns c).After-base_of-base).1); for_every_list = place_promise c.args.self c.args.size c.args.tag e }
