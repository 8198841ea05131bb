-- The preview (document 02, request 6), for every session and every buffer: the two calls that it is made of are refused by its conditions in their order, and what a preview that is
-- refused leaves; and in a reading it changes nothing.
-- Assumes nothing.
use mathlib.Core.Path.{◌≡◌, refl, sym, ap, ap₂, ◌∙◌}
use mathlib.Core.Bool.{Bool, true, false, cond}
use mathlib.Core.List.{List, ◌∷◌}
use Prim.Native.Nat.{ℕ, ◌-◌, ◌≤◌}
use borrow.Author.Tests.{eqb-true, eqb-false, eq-eqb, ne_eqb, not-false, ltb-false}
use lib.Dec.{eqb}
use lib.ListN.{length}
use Rattle.common.specs.Refusal.{refusal_of}
use Rattle.common.specs.Lists.{over_front}
use Rattle.common.proofs.TestLaws.{and_both, either}
use Rattle.common.proofs.ConditionLaws.{none_fit, refusal_append}
use Rattle.session.specs.Tables.{since, check_served, verdict_outcome, stamp_size}
use Rattle.session.specs.Condition.{verdict_conditions, stamp_conditions}
use Rattle.session.specs.Reading.{Arguments, Reading, refused_by, read}
use Rattle.session.specs.Ranges.{ranged_values, values_in_range, in_range, out_of_range}
use Rattle.session.specs.Operation.{verdict_refusal, verdict_taken_session, verdict_of, stamp_refusal, stamp_in, stamp_answer, stamp_buffer, preview_refusal, preview_of}
use Rattle.session.specs.declared.state.Session.{Session}
use Rattle.session.proofs.OutcomeLaws.{verdict_small, set-in_range}
use Rattle.session.proofs.RangesLaws.{groups_in_range}
use Rattle.session.proofs.RefusedLaws.{stamp_unchanged}
use Rattle.session.proofs.CallLaws.{stamp_accepted, stamp_refused}

module _ (s : Session) (kind yes_no : ℕ) (fascn : List ℕ) where
  -- the number is the verdict's, and where that is 0 it is 6 or 0
  pub preview_number_by : (room : ℕ) → preview_refusal s kind yes_no fascn room ≡ cond (eqb (verdict_refusal s kind yes_no fascn) 0) (refusal_of (stamp_conditions since room)) (verdict_refusal s kind yes_no fascn)
  unfolding preview_refusal verdict_refusal
  preview_number_by room =
      refusal_append ((4, out_of_range s) ∷ verdict_conditions since s.opening.mode s.progress.step s.outcomes kind yes_no fascn) (stamp_conditions since room) refl

  -- ---- the two calls

  -- a verdict that is taken leaves a session in range, so that a stamp call on it is refused by 6 alone
  taken_in_range : verdict_refusal s kind yes_no fascn ≡ 0 → in_range (verdict_taken_session s kind yes_no fascn) ≡ true
  unfolding verdict_refusal in_range values_in_range ranged_values verdict_taken_session
  taken_in_range e =
      let c = none_fit ((4, out_of_range s) ∷ verdict_conditions since s.opening.mode s.progress.step s.outcomes kind yes_no fascn) refl e in
      let g = groups_in_range s (not-false (in_range s) c.0) in
      and_both (and_both g.0.0 g.0.1) (and_both (set-in_range s.outcomes (check_served kind - 1) (verdict_outcome s.card.fascn yes_no fascn) (verdict_small s.card.fascn yes_no fascn) g.1.0) g.1.1)

  stamp_on_taken : (room : ℕ) → verdict_refusal s kind yes_no fascn ≡ 0 → stamp_refusal (verdict_taken_session s kind yes_no fascn) room ≡ refusal_of (stamp_conditions since room)
  unfolding stamp_refusal
  stamp_on_taken room e = rw (taken_in_range e)

  -- where the verdict is taken, and where it is refused
  preview_taken : (out : List ℕ) → verdict_refusal s kind yes_no fascn ≡ 0
      → let t = verdict_taken_session s kind yes_no fascn in preview_of s kind yes_no fascn out ≡ (refusal_of (stamp_conditions since (length out)), stamp_buffer t out)
  unfolding preview_of verdict_of stamp_answer
  preview_taken out e = rw (eq-eqb (verdict_refusal s kind yes_no fascn) 0 e) (ap (λ (k : ℕ). (k, stamp_buffer (verdict_taken_session s kind yes_no fascn) out)) (stamp_on_taken (length out) e))

  preview_not_taken : (out : List ℕ) → (verdict_refusal s kind yes_no fascn ≡ 0 → ⊥) → preview_of s kind yes_no fascn out ≡ (verdict_refusal s kind yes_no fascn, out)
  unfolding preview_of verdict_of
  preview_not_taken out f = let e = ne_eqb (verdict_refusal s kind yes_no fascn) 0 f in rw (e, e)

  -- The number of the two calls is that of the conditions in their order.
  pub two_calls_number : (out : List ℕ) → (preview_of s kind yes_no fascn out).0 ≡ preview_refusal s kind yes_no fascn (length out)
  two_calls_number out = go (eqb (verdict_refusal s kind yes_no fascn) 0) refl
    where
      go : (b : Bool) → eqb (verdict_refusal s kind yes_no fascn) 0 ≡ b → (preview_of s kind yes_no fascn out).0 ≡ preview_refusal s kind yes_no fascn (length out)
      go true e = ap (λ (x : ℕ × List ℕ). x.0) (preview_taken out (eqb-true _ 0 e)) ∙ sym (preview_number_by (length out) ∙ rw e)
      go false e = ap (λ (x : ℕ × List ℕ). x.0) (preview_not_taken out (eqb-false _ 0 e)) ∙ sym (preview_number_by (length out) ∙ rw e)

  -- A preview that is refused leaves the whole buffer as it was.
  pub preview_unchanged : (out : List ℕ) → let k = preview_refusal s kind yes_no fascn (length out) in (k ≡ 0 → ⊥) → preview_of s kind yes_no fascn out ≡ (k, out)
  preview_unchanged out f = go (eqb (verdict_refusal s kind yes_no fascn) 0) refl
    where
      go : (b : Bool) → eqb (verdict_refusal s kind yes_no fascn) 0 ≡ b → preview_of s kind yes_no fascn out ≡ (preview_refusal s kind yes_no fascn (length out), out)
      go true e =
          let z = eqb-true _ 0 e in
          let k : preview_refusal s kind yes_no fascn (length out) ≡ refusal_of (stamp_conditions since (length out)) = preview_number_by (length out) ∙ rw e in
          preview_taken out z ∙ ap₂ (λ (n : ℕ) (l : List ℕ). (n, l)) (sym k) (stamp_unchanged (verdict_taken_session s kind yes_no fascn) out (λ y. f (k ∙ sym (stamp_on_taken (length out) z) ∙ y))).1
      go false e = preview_not_taken out (eqb-false _ 0 e) ∙ ap (λ (n : ℕ). (n, out)) (sym (preview_number_by (length out) ∙ rw e))

  -- ---- as the code goes

  -- the verdict is refused by a number
  pub verdict_refuses : (out : List ℕ) {k : ℕ} → k ≡ verdict_refusal s kind yes_no fascn → (k ≡ 0 → ⊥) → (k ≡ preview_refusal s kind yes_no fascn (length out)) × ((k, out) ≡ preview_of s kind yes_no fascn out)
  verdict_refuses out e f =
      let none : verdict_refusal s kind yes_no fascn ≡ 0 → ⊥ = λ z. f (e ∙ z) in
      (e ∙ sym (preview_number_by (length out) ∙ rw (ne_eqb _ 0 none)), ap (λ (n : ℕ). (n, out)) e ∙ sym (preview_not_taken out none))

  -- it is taken, and the room gives a number
  room_decides : (out : List ℕ) {j k : ℕ} {left : List ℕ} → j ≡ verdict_refusal s kind yes_no fascn → j ≡ 0 → k ≡ refusal_of (stamp_conditions since (length out))
      → left ≡ stamp_buffer (verdict_taken_session s kind yes_no fascn) out → (k ≡ preview_refusal s kind yes_no fascn (length out)) × ((k, left) ≡ preview_of s kind yes_no fascn out)
  room_decides out e z r w =
      let taken = sym e ∙ z in
      (r ∙ sym (preview_number_by (length out) ∙ rw (eq-eqb _ 0 taken)), ap₂ (λ (n : ℕ) (l : List ℕ). (n, l)) r w ∙ sym (preview_taken out taken))

  pub room_accepts : (out : List ℕ) {j k : ℕ} {left : List ℕ} → j ≡ verdict_refusal s kind yes_no fascn → j ≡ 0 → k ≡ refusal_of (stamp_conditions since (length out)) → k ≡ 0
      → left ≡ over_front (stamp_in (verdict_taken_session s kind yes_no fascn)) out → (k ≡ preview_refusal s kind yes_no fascn (length out)) × ((k, left) ≡ preview_of s kind yes_no fascn out)
  room_accepts out e z r y w =
      room_decides out e z r (stamp_accepted (verdict_taken_session s kind yes_no fascn) out (r ∙ sym (stamp_on_taken (length out) (sym e ∙ z))) y w)

  pub room_refuses : (out : List ℕ) {j k : ℕ} → j ≡ verdict_refusal s kind yes_no fascn → j ≡ 0 → k ≡ refusal_of (stamp_conditions since (length out)) → (k ≡ 0 → ⊥)
      → (k ≡ preview_refusal s kind yes_no fascn (length out)) × ((k, out) ≡ preview_of s kind yes_no fascn out)
  room_refuses out e z r f =
      room_decides out e z r (stamp_refused (verdict_taken_session s kind yes_no fascn) out (r ∙ sym (stamp_on_taken (length out) (sym e ∙ z))) f)

-- a buffer that 6 does not refuse has room for the stamp
pub stamp_has_room : (room : ℕ) {k : ℕ} → k ≡ refusal_of (stamp_conditions since room) → k ≡ 0 → stamp_size since ≤ room
stamp_has_room room e z = ltb-false room (stamp_size since) (none_fit (stamp_conditions since room) refl (sym e ∙ z)).0

-- ---- in a reading

pub preview_reads : (r : Reading) (kind yes_no : ℕ) (fascn : List ℕ) (room : ℕ) → read r (Arguments.preview kind yes_no fascn room) ≡ r
unfolding read
preview_reads r kind yes_no fascn room = either (λ (q : Reading). q ≡ r) (eqb (refused_by r (Arguments.preview kind yes_no fascn room)) 0) refl refl
