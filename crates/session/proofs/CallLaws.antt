-- What open, answer, verdict, field and stamp give, by the number that refuses them: where it is 0, and where it is not.
-- Assumes nothing.
use mathlib.Core.Path.{◌≡◌, refl, sym, ap, ◌∙◌}
use mathlib.Core.Bool.{Bool, true, false, cond, not, ◌&&◌, ◌||◌}
use mathlib.Core.List.{List, [], ◌∷◌}
use Prim.Native.Nat.{ℕ, ◌+◌, ◌-◌, ◌≤◌}
use native.Mathlib.Nat.{add-sub_cancel_left}
use borrow.Author.Tests.{eq-eqb, ne_eqb, eqb-true, eqb-false, not-false, ltb-false, leb-true}
use lib.Dec.{eqb, leb}
use lib.ListN.{length, take, drop}
use lib.Seq.{drop-drop}
use Rattle.std.specs.Prelude.{Result, Ok, Err}
use Rattle.std.specs.Result.{is_err}
use Rattle.common.specs.Lists.{over_front}
use Rattle.card.specs.Fascn.{unpack_never_zero, unpacked}
use Rattle.card.specs.declared.fascn.UnpackError.{UnpackError}
use Rattle.card.specs.Object.{empty, bytes_at}
use Rattle.card.specs.declared.object.Part.{Part}
use Rattle.card.specs.Command.{aid_most}
use Rattle.card.proofs.CommandLaws.{aid_most_lem}
use Rattle.session.specs.Tables.{since, object_size, base_of, step_read, step_of_tag, status_size, answer_most, data_of, status_bytes, stamp_size}
use Rattle.session.specs.Condition.{open_conditions, answer_conditions, field_refused, stamp_conditions}
use Rattle.session.specs.Ranges.{in_range, out_of_range}
use Rattle.session.specs.Operation.{open_refusal, answer_refusal, answer_taken_session, answer_taken_buffer, answer_of, answer_buffer, stamp_in, stamp_refusal, stamp_answer, stamp_buffer, part_for, field_place, field_of}
use Rattle.session.specs.declared.state.Session.{Session}
use Rattle.common.proofs.TestLaws.{and_left, and_right, or_left, or_right}
use Rattle.common.proofs.ConditionLaws.{none_fit}
use Rattle.session.proofs.RefusedLaws.{answer_unchanged, stamp_unchanged}

-- ---- any call

-- the number n of the code is k of a definition, and it is 0, or it is not
pub none : {n k : ℕ} → n ≡ k → n ≡ 0 → eqb k 0 ≡ true
none {n} {k} e z = eq-eqb k 0 (sym e ∙ z)

pub some : {n k : ℕ} → n ≡ k → (n ≡ 0 → ⊥) → eqb k 0 ≡ false
some {n} {k} e f = ne_eqb k 0 (λ z. f (e ∙ z))

-- the number and the session of a call that is accepted, and of one that is refused
pub accepts : {A : Type 0} {n k : ℕ} {x y : A} (s : A) → n ≡ k → n ≡ 0 → x ≡ y → ◌≡◌ {A = ℕ × A} (n, x) (cond (eqb k 0) (0, y) (k, s))
accepts s e z f = rw (none e z, z, f)

pub refuses : {A : Type 0} {n k : ℕ} {x s : A} (y : A) → n ≡ k → (n ≡ 0 → ⊥) → x ≡ s → ◌≡◌ {A = ℕ × A} (n, x) (cond (eqb k 0) (0, y) (k, s))
refuses y e f p = rw (some e f, e, p)

-- and what either says of the definition's number
given_by : {A : Type 0} (b : Bool) (k : ℕ) {n : ℕ} {x : A} (y s : A) → eqb k 0 ≡ b → ◌≡◌ {A = ℕ × A} (n, x) (cond b (0, y) (k, s)) → ((n ≡ 0 → (k ≡ 0) × (x ≡ y)) × ((n ≡ 0 → ⊥) → n ≡ k))
given_by {A} true k y s p e = (λ z. (eqb-true k 0 p, ap (λ (q : ℕ × A). q.1) e), λ f. absurd (f (ap (λ (q : ℕ × A). q.0) e)))
given_by {A} false k y s p e = (λ z. absurd (eqb-false k 0 p (sym (ap (λ (q : ℕ × A). q.0) e) ∙ z)), λ f. ap (λ (q : ℕ × A). q.0) e)

pub when_accepted : {A : Type 0} (k : ℕ) {n : ℕ} {x : A} (y s : A) → ◌≡◌ {A = ℕ × A} (n, x) (cond (eqb k 0) (0, y) (k, s)) → n ≡ 0 → (k ≡ 0) × (x ≡ y)
when_accepted k y s e z = (given_by (eqb k 0) k y s refl e).0 z

pub when_refused : {A : Type 0} (k : ℕ) {n : ℕ} {x : A} (y s : A) → ◌≡◌ {A = ℕ × A} (n, x) (cond (eqb k 0) (0, y) (k, s)) → (n ≡ 0 → ⊥) → n ≡ k
when_refused k y s e f = (given_by (eqb k 0) k y s refl e).1 f

-- ---- open

-- an opening that is not refused has an AID that is not too long
pub open_fits : (mode date : ℕ) (aid : List ℕ) → open_refusal mode date aid ≡ 0 → length aid ≤ aid_most
unfolding open_refusal
open_fits mode date aid e = aid_most_lem aid (none_fit (open_conditions since mode date aid) refl e).1.1.0

-- ---- answer

-- what an answer that is accepted has passed
pub record Fitting (s : Session) (size n : ℕ) : Type 0 where
  pub range : in_range s ≡ true
  pub whole : size ≡ object_size
  pub least : status_size ≤ n
  pub most : n ≤ answer_most

pub answer_fits : (s : Session) (size n : ℕ) → answer_refusal s size n ≡ 0 → Fitting s size n
unfolding answer_refusal
answer_fits s size n e =
    let c = none_fit ((4, out_of_range s) ∷ answer_conditions since s.progress.outstanding size n) refl e in
    let h = not-false (leb status_size n && leb n answer_most) c.1.1.1.0 in
    record { range = not-false _ c.0; whole = eqb-true size object_size (not-false _ c.1.1.0); least = leb-true status_size n (and_left (leb status_size n) (leb n answer_most) h); most = leb-true n answer_most (and_right (leb status_size n) (leb n answer_most) h) }

pub answer_taken_lem : (s : Session) (object bytes cancelled : List ℕ) {n : ℕ} {x : Session} {m : List ℕ} → n ≡ answer_refusal s (length object) (length bytes) → n ≡ 0
    → x ≡ answer_taken_session s object (data_of bytes) (status_bytes bytes) cancelled → m ≡ answer_taken_buffer s object (data_of bytes) (status_bytes bytes)
    → ((n, x) ≡ answer_of s object bytes cancelled) × (m ≡ answer_buffer s object bytes)
unfolding answer_of answer_buffer
answer_taken_lem s object bytes cancelled e z f g = (accepts s e z f, rw (none e z) g)

pub answer_refused_lem : (s : Session) (object bytes cancelled : List ℕ) {n : ℕ} → n ≡ answer_refusal s (length object) (length bytes) → (n ≡ 0 → ⊥)
    → ((n, s) ≡ answer_of s object bytes cancelled) × (object ≡ answer_buffer s object bytes)
answer_refused_lem s object bytes cancelled e f =
    let u = answer_unchanged s object bytes cancelled (λ z. f (e ∙ z)) in (ap (λ (k : ℕ). (k, s)) e ∙ sym u.0, sym u.1)

-- ---- verdict

-- bytes are refused by their number where they are not unpacked
pub unpack_test : (r : Result (List ℕ) UnpackError) {p : ℕ × List ℕ} → unpacked r ≡ p → not (eqb p.0 0) ≡ is_err r
unpack_test (Ok digits) e = rw (← e) refl
unpack_test (Err x) e = rw (← e, unpack_never_zero x) refl

-- ---- field

-- none fits: the session is in range, and the buffer has its size
pub field_accepted : (s : Session) (n tag : ℕ) → out_of_range s || field_refused since s.opening.mode s.progress.step n tag ≡ false → (in_range s ≡ true) × (n ≡ object_size)
field_accepted s n tag e =
    let other = eqb (step_of_tag tag) 0 || not (step_read s.opening.mode s.progress.step (step_of_tag tag)) in
    let sized = not (eqb n object_size) in (
      not-false (in_range s) (or_left (out_of_range s) (sized || other) e),
      eqb-true n object_size (not-false (eqb n object_size) (or_left sized other (or_right (out_of_range s) (sized || other) e))),
    )

-- where the value lies, by the tests
pub place_refused : (s : Session) (size tag : ℕ) → out_of_range s || field_refused since s.opening.mode s.progress.step size tag ≡ true → empty ≡ field_place s size tag
unfolding field_place
place_refused s size tag e = rw e

pub place_read : (s : Session) (size tag : ℕ) → out_of_range s || field_refused since s.opening.mode s.progress.step size tag ≡ false
    → let step = step_of_tag tag in record { start = base_of step + (part_for s step tag).start; len = (part_for s step tag).len } ≡ field_place s size tag
unfolding field_place
place_read s size tag e = rw e

-- the value is the bytes at its place
pub place_value : (s : Session) (object : List ℕ) (tag : ℕ) → bytes_at object (field_place s (length object) tag) ≡ field_of s object tag
unfolding field_place field_of bytes_at
place_value s object tag = by_tests (out_of_range s || field_refused since s.opening.mode s.progress.step (length object) tag)
  where
    part : Part
    part = part_for s (step_of_tag tag) tag

    by_tests : (b : Bool) → let p = cond b empty (record { start = base_of (step_of_tag tag) + part.start; len = part.len }) in
        take p.len (drop p.start object) ≡ cond b [] (take part.len (drop part.start (drop (base_of (step_of_tag tag)) object)))
    by_tests true = refl
    by_tests false = ap (take part.len) (sym (drop-drop part.start (base_of (step_of_tag tag)) object))

-- a part that is cut out by its two ends
pub part_cut : (object : List ℕ) (p : Part) → take (p.start + p.len - p.start) (drop p.start object) ≡ bytes_at object p
unfolding bytes_at
part_cut object p = rw add-sub_cancel_left

-- ---- stamp

-- a stamp that is not refused has room
pub stamp_fits : (s : Session) (room : ℕ) → stamp_refusal s room ≡ 0 → stamp_size since ≤ room
unfolding stamp_refusal
stamp_fits s room e = ltb-false room (stamp_size since) (none_fit ((4, out_of_range s) ∷ stamp_conditions since room) refl e).1.0

pub stamp_given : (s : Session) (room : ℕ) {k : ℕ} → k ≡ stamp_refusal s room → (k, s) ≡ stamp_answer s room
unfolding stamp_answer
stamp_given s room e = ap (λ (k : ℕ). (k, s)) e

pub stamp_accepted : (s : Session) (out : List ℕ) {k : ℕ} {left : List ℕ} → k ≡ stamp_refusal s (length out) → k ≡ 0 → left ≡ over_front (stamp_in s) out → left ≡ stamp_buffer s out
unfolding stamp_buffer
stamp_accepted s out e z p = rw (none e z, p)

pub stamp_refused : (s : Session) (out : List ℕ) {k : ℕ} → k ≡ stamp_refusal s (length out) → (k ≡ 0 → ⊥) → out ≡ stamp_buffer s out
stamp_refused s out e f = sym (stamp_unchanged s out (λ z. f (e ∙ z))).1
