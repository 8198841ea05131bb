-- The joined data of a step, judged: its cause, by the readers of crate card.
-- Assumes nothing.
use mathlib.Core.Path.{◌≡◌, refl, sym}
use mathlib.Core.List.{List}
use Prim.Native.Nat.{ℕ}
use borrow.Author.Tests.{eq-eqb, ne_eqb}
use lib.ListN.{length}
use Rattle.card.specs.Fascn.{unpack_of}
use Rattle.card.specs.Template.{template_of}
use Rattle.card.specs.Object.{malformed_object, expiry_tag, object_of, field_value}
use Rattle.card.specs.Date.{ill_formed_date, date_of}
use Rattle.card.specs.declared.object.Part.{Part}
use Rattle.session.specs.Tables.{fascn_cause, kind_at, fascn_read, object_cause, joined_cause}
use Rattle.session.specs.Operation.{progress_stopped, with_session_progress, good_end_session, judged_session, good_end_of}
use Rattle.session.specs.declared.state.Session.{Session}
use Rattle.session.proofs.CallLaws.{none, some, accepts, refuses, when_accepted, when_refused}

-- ---- the number and the session, where the data is good, and where it has a cause

pub ends_well : (s : Session) (joined cancelled : List ℕ) {x : Session} → joined_cause s.opening.mode s.progress.step joined ≡ 0 → x ≡ good_end_session s joined cancelled → (0, x) ≡ good_end_of s joined cancelled
unfolding good_end_of
ends_well s joined cancelled e f = accepts s (sym e) refl f

pub ends_ill : (s : Session) (joined cancelled : List ℕ) {k : ℕ} → joined_cause s.opening.mode s.progress.step joined ≡ k → (k ≡ 0 → ⊥) → (k, s) ≡ good_end_of s joined cancelled
unfolding good_end_of
ends_ill s joined cancelled {k} e f = refuses {n = k} {x = s} (good_end_session s joined cancelled) (sym e) f refl

-- the session that is judged
pub judged_well : (s : Session) (joined cancelled : List ℕ) {x : Session} → (0, x) ≡ good_end_of s joined cancelled → x ≡ judged_session s joined cancelled
unfolding good_end_of judged_session
judged_well s joined cancelled e = let h = when_accepted (joined_cause s.opening.mode s.progress.step joined) (good_end_session s joined cancelled) s e refl in rw (eq-eqb _ 0 h.0) h.1

pub judged_ill : (s : Session) (joined cancelled : List ℕ) {k : ℕ} → (k, s) ≡ good_end_of s joined cancelled → (k ≡ 0 → ⊥)
    → with_session_progress s (progress_stopped s.progress (length joined) k 0 0) ≡ judged_session s joined cancelled
unfolding good_end_of judged_session
judged_ill s joined cancelled {k} e f = rw (← when_refused (joined_cause s.opening.mode s.progress.step joined) (good_end_session s joined cancelled) s e f, ne_eqb k 0 f)

-- ---- the cause

-- step 0
pub template_cause : (s : Session) (joined : List ℕ) → s.progress.step ≡ 0 → joined_cause s.opening.mode s.progress.step joined ≡ template_of joined
unfolding joined_cause
template_cause s joined e = rw e

-- steps 1 and 2: the object is malformed
pub object_ill : (s : Session) (joined : List ℕ) {n : ℕ} → (s.progress.step ≡ 0 → ⊥) → n ≡ (object_of (kind_at s.opening.mode s.progress.step) joined).0 → (n ≡ 0 → ⊥)
    → joined_cause s.opening.mode s.progress.step joined ≡ malformed_object
unfolding joined_cause object_cause
object_ill s joined z e f = rw (ne_eqb _ _ z, some e f)

-- step 1: the FASC-N is ill-formed, or the date is, or none is
pub fascn_ill : (s : Session) (joined : List ℕ) {parts : List Part} {n : ℕ} → s.progress.step ≡ 1 → (0, parts) ≡ object_of (kind_at s.opening.mode 1) joined
    → n ≡ (unpack_of (fascn_read s.opening.mode joined)).0 → (n ≡ 0 → ⊥) → joined_cause s.opening.mode s.progress.step joined ≡ fascn_cause
unfolding joined_cause object_cause
fascn_ill s joined e f u h = rw (e, ← f, some u h)

pub date_ill : (s : Session) (joined : List ℕ) {parts : List Part} {n : ℕ} → s.progress.step ≡ 1 → (0, parts) ≡ object_of (kind_at s.opening.mode 1) joined
    → 0 ≡ (unpack_of (fascn_read s.opening.mode joined)).0 → n ≡ (date_of (field_value (kind_at s.opening.mode 1) expiry_tag joined)).0 → (n ≡ 0 → ⊥)
    → joined_cause s.opening.mode s.progress.step joined ≡ ill_formed_date
unfolding joined_cause object_cause
date_ill s joined e f u d h = rw (e, ← f, none u refl, some d h)

pub step1_well : (s : Session) (joined : List ℕ) {parts : List Part} → s.progress.step ≡ 1 → (0, parts) ≡ object_of (kind_at s.opening.mode 1) joined
    → 0 ≡ (unpack_of (fascn_read s.opening.mode joined)).0 → 0 ≡ (date_of (field_value (kind_at s.opening.mode 1) expiry_tag joined)).0
    → joined_cause s.opening.mode s.progress.step joined ≡ 0
unfolding joined_cause object_cause
step1_well s joined e f u d = rw (e, ← f, none u refl, none d refl)

-- step 2
pub step2_well : (s : Session) (joined : List ℕ) {parts : List Part} → (s.progress.step ≡ 0 → ⊥) → (s.progress.step ≡ 1 → ⊥) → (0, parts) ≡ object_of (kind_at s.opening.mode s.progress.step) joined
    → joined_cause s.opening.mode s.progress.step joined ≡ 0
unfolding joined_cause object_cause
step2_well s joined z o f = rw (ne_eqb _ _ z, ← f, ne_eqb _ _ o)
