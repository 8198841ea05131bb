-- The promise as the contracts carry it: what each call gives and leaves, for every history that reaches its session.
-- Assumes nothing.
use mathlib.Core.Path.{◌≡◌, refl, sym, ap, ap₂, subst, ◌∙◌}
use mathlib.Core.Bool.{Bool, true, cond}
use mathlib.Core.Logic.{◌↔◌}
use mathlib.Core.List.{List, []}
use Prim.Native.Nat.{ℕ}
use native.Mathlib.Omega.{arith}
use borrow.Author.Tests.{eq-eqb, not-false}
use lib.Dec.{eqb}
use lib.ListN.{length, get_or, take, drop}
use lib.Seq.{take_at}
use Rattle.common.specs.Lists.{over_front}
use Rattle.card.specs.Date.{real_date}
use Rattle.card.specs.Object.{bytes_at}
use Rattle.card.specs.declared.object.Part.{Part}
use Rattle.common.proofs.ListsLaws.{front_at}
use Rattle.session.specs.Tables.{since, mode_opens, stamp_size}
use Rattle.session.specs.Condition.{open_conditions}
use Rattle.session.specs.Reading.{Arguments, refused_by}
use Rattle.session.specs.Finding.{finding, stamp_of}
use Rattle.session.specs.Operation.{dead, opened, open_refusal, open_of, command_of, command_buffer, answer_refusal, answer_of, answer_buffer, verdict_of, field_place, field_of, stamp_answer, stamp_buffer, preview_of}
use Rattle.session.specs.Promise.{Call, Bytes, good_opening, History, finish, reading_of, Result, StampSays, OpenedBy, OpenPromise, CommandPromise, AnswerPromise, VerdictPromise, FieldPromise, PlacePromise, StampPromise, PreviewPromise}
use Rattle.session.specs.declared.state.Session.{Session}
use Rattle.common.proofs.TestLaws.{and_both}
use Rattle.session.proofs.FigureLaws.{opens_in_range, stamp_long}
use Rattle.common.proofs.ConditionLaws.{none_fit}
use Rattle.session.proofs.CallLaws.{when_accepted, place_value}
use Rattle.session.proofs.StampLaws.{stamp_length, stamp_second}
use Rattle.session.proofs.RunLaws.{zero_or}
use Rattle.session.proofs.HistoryLaws.{with_call, extended}
use Rattle.session.proofs.PromiseLaws.{reached, number_next, promise}

-- ---- open

-- an opening that no condition fits is good
opening_good : (mode date : ℕ) (aid : List ℕ) → open_refusal mode date aid ≡ 0 → good_opening since (record { mode = mode; date = date; aid = aid }) ≡ true
unfolding open_refusal
opening_good mode date aid e =
    let c = none_fit (open_conditions since mode date aid) refl e in
    and_both (and_both (opens_in_range mode (not-false (mode_opens since mode) c.0)) (not-false (real_date date) c.1.0)) (rw c.1.1.0)

-- it begins a history, with any object buffer
pub opening_begins : (mode date : ℕ) (aid object : List ℕ) → open_refusal mode date aid ≡ 0 → OpenedBy (record { mode = mode; date = date; aid = aid }) (opened mode date aid) object
opening_begins mode date aid object e =
    record {
      history = record { opening = record { mode = mode; date = date; aid = aid }; good = opening_good mode date aid e; object = object; calls = []; lent = tt };
      opening = refl;
      buffer = refl;
      calls = refl;
      host = refl;
    }

pub open_promise : (mode date : ℕ) (aid : List ℕ) {k : ℕ} {x : Session} → (k, x) ≡ open_of mode date aid → OpenPromise mode date aid k x
unfolding open_of
open_promise mode date aid {k} {x} e z object =
    let c = when_accepted (open_refusal mode date aid) (opened mode date aid) dead e z in
    subst (λ (s : Session). OpenedBy (record { mode = mode; date = date; aid = aid }) s object) (sym c.1) (opening_begins mode date aid object c.0)

-- ---- what a call gives, of the definitions and of the code

given_by : {n m j k : ℕ} {x y : List ℕ} → n ≡ m → j ≡ k → x ≡ y → ◌≡◌ {A = Result} (record { number = m; count = k; bytes = y }) (record { number = n; count = j; bytes = x })
given_by p q r = rw (p, q, r)

-- ---- command

pub command_promise : (s : Session) (before left : List ℕ) {k m : ℕ} {x : Session} → (k, m, x) ≡ command_of s (length before) → left ≡ command_buffer s before → CommandPromise s before left k m x
command_promise s before left {k} {m} {x} e b h es =
    let p = promise h in
    let g : (k, m, x) ≡ command_of (finish h).session (length before) = e ∙ ap (λ (x : Session). command_of x (length before)) es in
    record {
      number = ap (λ (x : ℕ × ℕ × Session). x.0) g ∙ p.command_number before;
      count = ap (λ (x : ℕ × ℕ × Session). x.1) g ∙ p.command_count before;
      bytes = b ∙ ap (λ (x : Session). command_buffer x before) es ∙ p.command_bytes before;
      result = given_by (ap (λ (x : ℕ × ℕ × Session). x.0) g) (ap (λ (x : ℕ × ℕ × Session). x.1) g) (b ∙ ap (λ (x : Session). command_buffer x before) es);
      extended = extended h (Call.command before) x (finish h).object tt (ap (λ (x : ℕ × ℕ × Session). record { session = x.2; object = (finish h).object }) (sym g));
    }

-- ---- answer

-- its number is that of its conditions
answer_number_is : (s : Session) (object bytes cancelled : List ℕ) → (answer_of s object bytes cancelled).0 ≡ answer_refusal s (length object) (length bytes)
unfolding answer_of
answer_number_is s object bytes cancelled = zero_or (answer_refusal s (length object) (length bytes)) _ _ _ refl

pub answer_promise : (s : Session) (object bytes cancelled left : List ℕ) {k : ℕ} {x : Session} → Bytes bytes → (k, x) ≡ answer_of s object bytes cancelled → left ≡ answer_buffer s object bytes
    → AnswerPromise s object bytes cancelled left k x
answer_promise s object bytes cancelled left {k} {x} b e w h es eo =
    let t = (finish h).session in
    let g : (k, x) ≡ answer_of t object bytes cancelled = e ∙ ap (λ (x : Session). answer_of x object bytes cancelled) es in
    let n : k ≡ (answer_of t object bytes cancelled).0 = ap (λ (x : ℕ × Session). x.0) g in
    let buffer : cond (eqb (answer_refusal t (length object) (length bytes)) 0) (answer_buffer t object bytes) (finish h).object ≡ cond (eqb k 0) left (finish h).object =
    ap₂ (λ (k : ℕ) (l : List ℕ). cond (eqb k 0) l (finish h).object) (sym (n ∙ answer_number_is t object bytes cancelled)) (ap (λ (x : Session). answer_buffer x object bytes) (sym es) ∙ sym w) in
    record {
      number = n ∙ number_next h (Call.answer object bytes cancelled);
      result = given_by n refl (w ∙ ap (λ (x : Session). answer_buffer x object bytes) es);
      extended = extended h (Call.answer object bytes cancelled) x _ (λ z. eo (n ∙ z), b) (ap₂ (λ (x : ℕ × Session) (l : List ℕ). record { session = x.1; object = l }) (sym g) buffer);
    }

-- ---- verdict

pub verdict_promise : (s : Session) (kind yes_no : ℕ) (fascn : List ℕ) {k : ℕ} {x : Session} → (k, x) ≡ verdict_of s kind yes_no fascn → VerdictPromise s kind yes_no fascn k x
verdict_promise s kind yes_no fascn {k} {x} e h es =
    let g : (k, x) ≡ verdict_of (finish h).session kind yes_no fascn = e ∙ ap (λ (x : Session). verdict_of x kind yes_no fascn) es in
    record {
      number = ap (λ (x : ℕ × Session). x.0) g ∙ number_next h (Call.verdict kind yes_no fascn);
      result = given_by (ap (λ (x : ℕ × Session). x.0) g) refl refl;
      extended = extended h (Call.verdict kind yes_no fascn) x (finish h).object tt (ap (λ (x : ℕ × Session). record { session = x.1; object = (finish h).object }) (sym g));
    }

-- ---- field

pub field_promise : (s : Session) (object : List ℕ) (tag : ℕ) (value : List ℕ) → value ≡ field_of s object tag → FieldPromise s object tag value
field_promise s object tag value e h es =
    record {
      value = λ eo. e ∙ ap₂ (λ (x : Session) (l : List ℕ). field_of x l tag) es eo ∙ (promise h).field_value tag;
      empty = λ z. e ∙ ap (λ (x : Session). field_of x object tag) es ∙ (promise h).field_empty object tag z;
      result = given_by refl refl (e ∙ ap (λ (x : Session). field_of x object tag) es);
      extended = extended h (Call.field object tag) s (finish h).object tt (ap (λ (x : Session). record { session = x; object = (finish h).object }) (sym es));
    }

-- the bytes at the place of a field, in any buffer of that size
pub place_promise : (s : Session) (size tag : ℕ) {place : Part} → place ≡ field_place s size tag → PlacePromise s size tag place
place_promise s size tag e object k =
    field_promise s object tag _ (ap (bytes_at object) (e ∙ ap (λ (n : ℕ). field_place s n tag) (sym k)) ∙ place_value s object tag)

-- ---- stamp

front_take : (n : ℕ) (x l : List ℕ) → length x ≡ n → take n (over_front x l) ≡ x
unfolding over_front
front_take n x l e = take_at x (drop (length x) l) n e

-- another name for the left side of an equation
left_side : {A G : Type 0} (x : A) {y z : A} → x ≡ y → (y ≡ z) ↔ G → (x ≡ z) ↔ G
left_side x e (to, back) = (λ p. to (sym e ∙ p), λ g. e ∙ back g)

says : (h : History) (before left : List ℕ) → left ≡ over_front (stamp_of (finding (reading_of h))) before → StampSays (reading_of h) left
says h before left written =
    let f = finding (reading_of h) in
    let size : length (stamp_of f) ≡ stamp_size since = stamp_length (reading_of h) (reached h).object (reached h).holds in
    record {
      granted = left_side (get_or left 1 0) (ap (λ (l : List ℕ). get_or l 1 0) written ∙ front_at (stamp_of f) before 1 (omega (arith, size, stamp_long)) ∙ stamp_second f) (promise h).granted;
      apart = λ u. left_side (take (stamp_size since) left) (ap (take (stamp_size since)) written ∙ front_take (stamp_size since) (stamp_of f) before size) ((promise h).apart u);
    }

-- a call that is not refused has written
has_written : (k : ℕ) (x y : List ℕ) {n : ℕ} {left : List ℕ} → n ≡ k → left ≡ cond (eqb k 0) x y → n ≡ 0 → left ≡ x
has_written k x y e w z = w ∙ ap (λ (t : Bool). cond t x y) (eq-eqb k 0 (sym e ∙ z))

pub stamp_promise : (s : Session) (before left : List ℕ) {k : ℕ} {x : Session} → (k, x) ≡ stamp_answer s (length before) → left ≡ stamp_buffer s before → StampPromise s before left k x
stamp_promise s before left {k} {x} e b h es =
    let g : (k, x) ≡ stamp_answer (finish h).session (length before) = e ∙ ap (λ (x : Session). stamp_answer x (length before)) es in
    let w : left ≡ stamp_buffer (finish h).session before = b ∙ ap (λ (x : Session). stamp_buffer x before) es in
    let bytes = w ∙ (promise h).stamp_bytes before in
    let number = ap (λ (x : ℕ × Session). x.0) g ∙ (promise h).stamp_number before in
    record {
      number = number;
      bytes = bytes;
      says = λ z. says h before left (has_written (refused_by (reading_of h) (Arguments.stamp (length before))) _ before number bytes z);
      result = given_by (ap (λ (x : ℕ × Session). x.0) g) refl w;
      extended = extended h (Call.stamp before) x (finish h).object tt (ap (λ (x : ℕ × Session). record { session = x.1; object = (finish h).object }) (sym g));
    }

-- ---- preview

pub preview_promise : (s : Session) (kind yes_no : ℕ) (fascn before left : List ℕ) {k : ℕ} → (k, left) ≡ preview_of s kind yes_no fascn before → PreviewPromise s kind yes_no fascn before left k
preview_promise s kind yes_no fascn before left {k} e h es =
    let c = Call.verdict kind yes_no fascn in
    let g : (k, left) ≡ preview_of (finish h).session kind yes_no fascn before = e ∙ ap (λ (x : Session). preview_of x kind yes_no fascn before) es in
    let n = ap (λ (x : ℕ × List ℕ). x.0) g in
    let w = ap (λ (x : ℕ × List ℕ). x.1) g in
    let bytes = w ∙ (promise h).preview_bytes kind yes_no fascn before in
    let number = n ∙ (promise h).preview_number kind yes_no fascn before in
    record {
      number = number;
      bytes = bytes;
      says = λ z. says (with_call h c tt) before left (has_written (refused_by (reading_of h) (Arguments.preview kind yes_no fascn (length before))) _ before number bytes z);
      result = given_by n refl w;
      extended = extended h (Call.preview kind yes_no fascn before) s (finish h).object tt (ap (λ (x : Session). record { session = x; object = (finish h).object }) (sym es));
    }
