-- "A cause of 16 to 22 ends the reading at that step for good": for every opening and list, no call that follows changes a reading with such a cause.
-- Assumes nothing.
use mathlib.Core.Path.{◌≡◌, refl, sym, ◌∙◌, ap}
use mathlib.Core.Bool.{true, false}
use mathlib.Core.List.{List, [], ◌∷◌, ◌++◌}
use Prim.Native.Nat.{ℕ}
use borrow.Author.Tests.{eqb-true, not-false}
use lib.Dec.{eqb}
use lib.ListN.{length}
use Rattle.common.specs.Refusal.{refusal_of}
use Rattle.common.proofs.TestLaws.{clash, by_case, either, or_left, or_right}
use Rattle.common.proofs.ConditionLaws.{none_fit}
use Rattle.card.specs.Command.{status_of}
use Rattle.card.specs.declared.command.Status.{Status}
use Rattle.card.specs.declared.command.Status.TheVariants.{Done, More, Again, Other}
use Rattle.session.specs.Tables.{Figures, ends, capacity, data_of, status_bytes, joined_cause}
use Rattle.session.specs.Condition.{nothing_left, command_conditions, answer_conditions, stamp_conditions}
use Rattle.session.proofs.PreviewLaws.{preview_reads}
use Rattle.session.specs.Reading.{Opening, Arguments, Progress, Reading, begins, next_command, command_refused, answer_refused, verdict_refused, good_end, judged, appended, cause_by, answer_taken, refused_by, accepted, read, reading}

-- a cause has ended it: no command is outstanding, and step 3 is not reached
pub record Ended (r : Reading) : Type 0 where
  pub cause : ends r.progress.cause ≡ true
  pub answered : r.progress.outstanding ≡ false
  pub not-all_read : eqb r.progress.step 3 ≡ false

pub ended_stays : (r : Reading) → Ended r → (t : Arguments) → read r t ≡ r
unfolding read command_refused answer_refused verdict_refused
ended_stays r e (Arguments.command room) = rw (e.not-all_read, e.cause)
ended_stays r e (Arguments.answer size bytes cancelled) = rw e.answered
ended_stays r e (Arguments.verdict kind yes_no fascn) = rw e.not-all_read
ended_stays r e (Arguments.field size tag) = refl
ended_stays r e (Arguments.stamp room) = either (λ (q : Reading). q ≡ r) (eqb (refusal_of (stamp_conditions r.figures room)) 0) refl refl
ended_stays r e (Arguments.preview kind yes_no fascn room) = preview_reads r kind yes_no fascn room

pub ended_list : (r : Reading) → Ended r → (ts : List Arguments) → reading r ts ≡ r
ended_list r e [] = refl
ended_list r e (t ∷ ts) = ap (λ (q : Reading). reading q ts) (ended_stays r e t) ∙ ended_list r e ts

-- ---- after every list of calls a cause of 16 to 22 has ended the reading

-- a command is outstanding only before step 3, and none where a cause has ended the reading, which is before step 3 too
record Sound (p : Progress) : Type 0 where
  before_three : p.outstanding ≡ true → eqb p.step 3 ≡ false
  no_more : ends p.cause ≡ true → (p.outstanding ≡ false) × (eqb p.step 3 ≡ false)

abbrev SoundReading : Reading → Type 0
SoundReading r = Sound r.progress

-- a step begins, or goes on: no command is outstanding, and there is no cause
no_cause : {p : Progress} → p.outstanding ≡ false → p.cause ≡ 0 → Sound p
no_cause o c = record { before_three = λ e. clash (sym o ∙ e); no_more = λ e. clash (rw c at e) }

judged_sound : (r : Reading) (joined cancelled : List ℕ) → eqb r.progress.step 3 ≡ false → SoundReading (judged r joined cancelled)
unfolding judged good_end
judged_sound r joined cancelled s =
    by_case SoundReading _ _ (eqb (joined_cause r.opening.mode r.progress.step joined) 0)
    (λ _. by_case SoundReading _ _ (eqb r.progress.step 0) (λ _. no_cause refl refl) (λ _. by_case SoundReading _ _ (eqb r.progress.step 1) (λ _. no_cause refl refl) (λ _. no_cause refl refl)))
    (λ _. record { before_three = λ e. clash e; no_more = λ _. (refl, s) })

appended_sound : (status : Status) (r : Reading) (joined cancelled : List ℕ) → eqb r.progress.step 3 ≡ false → SoundReading (appended status r joined cancelled)
appended_sound Done r joined cancelled s = judged_sound r joined cancelled s
appended_sound (More second) r joined cancelled s = no_cause refl refl
appended_sound (Again last) r joined cancelled s = no_cause refl refl
appended_sound Other r joined cancelled s = judged_sound r joined cancelled s

accepted_sound : (r : Reading) → SoundReading r → (t : Arguments) → refused_by r t ≡ 0 → SoundReading (accepted r t)
unfolding command_refused answer_refused answer_taken
accepted_sound r i (Arguments.command room) e =
    let p = r.progress in
    let sends = (none_fit (command_conditions p.step p.cause p.outstanding room (length (next_command r))) refl e).0 in
    let left = or_left (nothing_left p.step p.cause) p.outstanding sends in
    record { before_three = λ _. or_left (eqb p.step 3) (ends p.cause) left; no_more = λ z. clash (sym (or_right (eqb p.step 3) (ends p.cause) left) ∙ z) }
accepted_sound r i (Arguments.answer size bytes cancelled) e =
    let p = r.progress in
    let s = i.before_three (not-false p.outstanding (none_fit (answer_conditions r.figures p.outstanding size (length bytes)) refl e).0) in
    by_case SoundReading _ _ (eqb (cause_by p (capacity r.opening.mode p.step) (status_of (status_bytes bytes)) (data_of bytes)) 0)
    (λ _. appended_sound (status_of (status_bytes bytes)) r (p.joined ++ data_of bytes) cancelled s) (λ _. record { before_three = λ z. clash z; no_more = λ _. (refl, s) })
accepted_sound r i (Arguments.verdict kind yes_no fascn) e = i
accepted_sound r i (Arguments.field size tag) e = i
accepted_sound r i (Arguments.stamp room) e = i
accepted_sound r i (Arguments.preview kind yes_no fascn room) e = i

list_sound : (r : Reading) → SoundReading r → (ts : List Arguments) → SoundReading (reading r ts)
unfolding read
list_sound r i [] = i
list_sound r i (t ∷ ts) = list_sound (read r t) (by_case SoundReading _ _ (eqb (refused_by r t) 0) (λ e. accepted_sound r i t (eqb-true _ 0 e)) (λ _. i)) ts

-- Where the calls of a list gave a cause of 16 to 22, the calls that follow leave the reading as it is, whatever they are.
pub ended_for_good : (f : Figures) (o : Opening) (ts later : List Arguments) → ends (reading (begins f o) ts).progress.cause ≡ true → reading (reading (begins f o) ts) later ≡ reading (begins f o) ts
ended_for_good f o ts later e =
    let r = reading (begins f o) ts in
    let n = (list_sound (begins f o) (no_cause refl refl) ts).no_more e in
    ended_list r (record { cause = e; answered = n.0; not-all_read = n.1 }) later
