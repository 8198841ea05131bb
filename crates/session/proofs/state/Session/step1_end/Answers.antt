-- `session::state::Session::step1_end` meets its contract: FASC-N and date are judged, and the session is what they give. Assumes nothing.
use mathlib.Core.Path.{◌≡◌, sym, ap, ◌∙◌}
use mathlib.Core.List.{List}
use Prim.Native.Nat.{ℕ}
use native.Mathlib.Omega.{arith}
use borrow.Author.Tests.{eqb-false}
use Rattle.std.proofs.lemmas.Result.{err_from_is_err_and}
use lib.ListN.{length}
use Rattle.card.specs.Fascn.{unpack_number, unpack_never_zero, unpack_of, key_of}
use Rattle.card.specs.Date.{date_of}
use Rattle.card.specs.Object.{no_parts, expiry_tag, object_of, field_value}
use Rattle.card.specs.declared.object.Part.{Part}
use Rattle.card.proofs.FascnLaws.{well_formed_lem}
use Rattle.session.specs.Tables.{kind_at, fascn_read}
use Rattle.session.specs.Operation.{good_end_session}
use Rattle.session.proofs.JudgeLaws.{ends_well, ends_ill, object_ill, fascn_ill, date_ill, step1_well}
use Rattle.session.proofs.state.Session.step1_end.Goals as goal
use Rattle.session.proofs.state.Session.step1_end.Goals.{After-array-fascn, In_ok-step1, In_ok-digits, In_ok-expiry}

-- each value is that of the definition
object_is : (c : goal.In_ok-step1) → (0, c.in_ok-step1.step1) ≡ object_of (kind_at c.args.self.opening.mode 1) c.args.joined.now
object_is c = rw (← c.kind_at-kind.ensures) c.in_ok-step1.ensures

digits_are : (c : goal.In_ok-digits) → (0, c.in_ok-digits.digits) ≡ unpack_of (fascn_read c.args.self.opening.mode c.args.joined.now)
digits_are c = rw (← c.kind_at-kind.ensures, ← c.field_value-bytes.ensures) c.in_ok-digits.ensures

expiry_is : (c : goal.In_ok-expiry) → (0, c.in_ok-expiry.expiry) ≡ date_of (field_value (kind_at c.args.self.opening.mode 1) expiry_tag c.args.joined.now)
expiry_is c = rw (← c.kind_at-kind.ensures, ← c.field_value.ensures) c.in_ok-expiry.ensures

fascn_is : (c : goal.After-array-fascn) → c.array-fascn.result ≡ fascn_read c.args.self.opening.mode c.args.joined.now
fascn_is c =
    let e : length c.field_value-bytes.result.now ≡ 25 = (well_formed_lem _ (ap (λ (x : ℕ × List ℕ). x.0) (sym c.in_ok-digits.ensures))).long in
    c.array-fascn.ensures.whole e ∙ rw (← c.kind_at-kind.ensures) c.field_value-bytes.ensures

pub returns-in_err-step1 : goal.returns-in_err-step1
returns-in_err-step1 c =
    let p = err_from_is_err_and c.from_residual.result c.from_residual.ensures.1 in
    let o : (20, no_parts) ≡ object_of (kind_at c.args.self.opening.mode c.args.self.progress.step) c.args.joined.now = rw (c.requires, ← c.kind_at-kind.ensures) c.in_err-step1.ensures in
    rw (p.1, p.2) (ends_ill c.args.self c.args.joined.now c.args.cancelled.now (object_ill c.args.self c.args.joined.now (λ z. omega arith) (ap (λ (x : ℕ × List Part). x.0) o) (λ z. omega arith)) (λ z. omega arith))

pub returns-in_err-digits : goal.returns-in_err-digits
returns-in_err-digits c =
    let p = err_from_is_err_and c.from_residual-in_err-digits.result c.from_residual-in_err-digits.ensures.1 in
    let u : unpack_number c.in_err-digits.field-0.0 ≡ (unpack_of (fascn_read c.args.self.opening.mode c.args.joined.now)).0 = rw (← c.kind_at-kind.ensures, ← c.field_value-bytes.ensures) (ap (λ (x : ℕ × List ℕ). x.0) c.in_err-digits.ensures) in
    rw (p.1, p.2) (ends_ill c.args.self c.args.joined.now c.args.cancelled.now (fascn_ill c.args.self c.args.joined.now c.requires (object_is (goal.at.returns-in_err-digits c).In_ok-step1) u (eqb-false _ 0 (unpack_never_zero c.in_err-digits.field-0.0))) (λ z. omega arith))

pub returns-in_err-expiry : goal.returns-in_err-expiry
returns-in_err-expiry c =
    let p = err_from_is_err_and c.from_residual-in_err-expiry.result c.from_residual-in_err-expiry.ensures.1 in
    let d : 22 ≡ (date_of (field_value (kind_at c.args.self.opening.mode 1) expiry_tag c.args.joined.now)).0 = rw (← c.kind_at-kind.ensures, ← c.field_value.ensures) (ap (λ (x : ℕ × ℕ). x.0) c.in_err-expiry.ensures) in
    rw (p.1, p.2) (ends_ill c.args.self c.args.joined.now c.args.cancelled.now (date_ill c.args.self c.args.joined.now c.requires (object_is (goal.at.returns-in_err-expiry c).In_ok-step1) (ap (λ (x : ℕ × List ℕ). x.0) (digits_are (goal.at.returns-in_err-expiry c).In_ok-digits)) d (λ z. omega arith)) (λ z. omega arith))

pub returns : goal.returns
unfolding good_end_session
returns c =
    let o = object_is (goal.at.returns c).In_ok-step1 in
    let u = digits_are (goal.at.returns c).In_ok-digits in
    let d = expiry_is (goal.at.returns c).In_ok-expiry in
    ends_well c.args.self c.args.joined.now c.args.cancelled.now (step1_well c.args.self c.args.joined.now c.requires o (ap (λ (x : ℕ × List ℕ). x.0) u) (ap (λ (x : ℕ × ℕ). x.0) d))
    (rw (c.requires, c.at_step-progress.ensures, c.step_after.ensures, c.judged_outcomes-outcomes.ensures, c.key_of-key.ensures ∙ ap (λ (x : ℕ × List ℕ). key_of x.1) u, fascn_is (goal.at.returns c).After-array-fascn, ap (λ (x : ℕ × ℕ). x.1) d, ap (λ (x : ℕ × List Part). x.1) o))
