-- What each call on a session gives, and what it leaves in the buffers that it is lent: the contracts cite these, for every session and every buffer.
-- Assumes nothing.
use Rattle.std.specs.Prelude.{◌≡◌, refl, true, false, cond, ◌||◌, List, [], ◌∷◌, ℕ, ◌+◌, eqb, length, get_or, take, drop, replicate, Option, Some, None}
use Rattle.common.specs.Lists.{over_front, over_places}
use Rattle.common.specs.Refusal.{refusal_of, number_in, value_in}
use Rattle.card.specs.Object.{biometric_tag, empty, most_fields, rows_of, object_of, part_in, bytes_at, field_part}
use Rattle.card.specs.Fascn.{fascn_bytes}
use Rattle.card.specs.Command.{aid_most, status_of}
use Rattle.card.specs.declared.object.Part.{Part}
use Rattle.card.specs.declared.command.Status.{Status}
use Rattle.card.specs.declared.command.Status.TheVariants.{Done, More, Again, Other}
use Rattle.session.specs.Tables.{since, checks, check_served, with_outcome, needed_outcomes, verdict_outcome, cause_of, standing_of, kind_at, step_after, base_of, capacity, step_of_tag, NextCommand, command_bytes, data_of, status_bytes, rule_cause, status_shown, fascn_read, expiry_read, judged_outcomes, joined_cause, head_of, stamp_layout}
use Rattle.session.specs.Condition.{open_conditions, command_conditions, answer_conditions, verdict_conditions, field_refused, stamp_conditions, preview_conditions}
use Rattle.session.specs.Ranges.{out_of_range}
use Rattle.session.specs.declared.state.SessionProgress.{SessionProgress}
use Rattle.session.specs.declared.state.Card.{Card}
use Rattle.session.specs.declared.state.Session.{Session}
use Rattle.session.specs.declared.state.Next.{Next}
use Rattle.session.specs.declared.state.Next.TheVariants.{Initial, GetResponse, InitialAgain, GetResponseAgain}
use Rattle.session.specs.declared.state.Refusal.{Refusal}
use Rattle.session.specs.declared.state.Answered.{Answered}
use Rattle.session.specs.declared.state.Refusal.TheVariants as refusals
use Rattle.session.specs.declared.state.Cause.{Cause}
use Rattle.session.specs.declared.state.Cause.TheVariants as causes

-- ---- the answers of the code: document 01's number of each refusal; no two have one number (`refusal_is`, proofs/ReplyLaws.antt)

abbrev pub refusal_number : Refusal → ℕ
refusal_number refusals.WrongMode = 1
refusal_number refusals.UnrealDate = 2
refusal_number refusals.WrongAid = 3
refusal_number refusals.OutOfRange = 4
refusal_number refusals.OutOfTurn = 5
refusal_number refusals.ShortBuffer = 6
refusal_number refusals.WrongObjectBuffer = 7
refusal_number refusals.WrongAnswerLength = 8
refusal_number refusals.NotAllRead = 9
refusal_number refusals.UnknownKind = 10
refusal_number refusals.UnknownVerdict = 11
refusal_number refusals.WrongFascn = 12
refusal_number refusals.NotNeeded = 13
refusal_number refusals.AlreadyGiven = 14

-- 0 is the number of an accepted call alone.
pub refusal_never_zero : (e : Refusal) → eqb (refusal_number e) 0 ≡ false
refusal_never_zero refusals.WrongMode = refl
refusal_never_zero refusals.UnrealDate = refl
refusal_never_zero refusals.WrongAid = refl
refusal_never_zero refusals.OutOfRange = refl
refusal_never_zero refusals.OutOfTurn = refl
refusal_never_zero refusals.ShortBuffer = refl
refusal_never_zero refusals.WrongObjectBuffer = refl
refusal_never_zero refusals.WrongAnswerLength = refl
refusal_never_zero refusals.NotAllRead = refl
refusal_never_zero refusals.UnknownKind = refl
refusal_never_zero refusals.UnknownVerdict = refl
refusal_never_zero refusals.WrongFascn = refl
refusal_never_zero refusals.NotNeeded = refl
refusal_never_zero refusals.AlreadyGiven = refl

-- The causes that end a reading.
abbrev pub cause_number : Cause → ℕ
cause_number causes.Status = 16
cause_number causes.Empty = 17
cause_number causes.Full = 18
cause_number causes.Template = 19
cause_number causes.Object = 20
cause_number causes.Fascn = 21
cause_number causes.Date = 22

pub cause_never_zero : (c : Cause) → eqb (cause_number c) 0 ≡ false
cause_never_zero causes.Status = refl
cause_never_zero causes.Empty = refl
cause_never_zero causes.Full = refl
cause_never_zero causes.Template = refl
cause_never_zero causes.Object = refl
cause_never_zero causes.Fascn = refl
cause_never_zero causes.Date = refl

-- The number that a call gives, 0 where it is accepted, and the session that it leaves; of a command call also the count of bytes, 0 where it is refused.
abbrev pub given : Answered Unit → ℕ × Session
given r = (number_in refusal_number r.reply, r.session)

abbrev pub command_given : Answered ℕ → ℕ × ℕ × Session
command_given r = (number_in refusal_number r.reply, value_in 0 r.reply, r.session)

abbrev pub with_session_progress : Session → SessionProgress → Session
with_session_progress s p = record { opening = s.opening; progress = p; outcomes = s.outcomes; card = s.card }

-- ---- open

-- A step begins.
abbrev pub progress_at_step : ℕ → SessionProgress
progress_at_step step = record { step = step; filled = 0; outstanding = false; next = Initial; cause = 0; sw1 = 0; sw2 = 0 }

abbrev pub no_parts : List Part
no_parts = replicate most_fields empty

abbrev pub no_card : Card
no_card = record { fascn = replicate fascn_bytes 0; expiry = 0; step1 = no_parts; step2 = empty }

-- "a dead session, all zeros"
abbrev pub dead : Session
dead =
    record { opening = record { mode = 0; date = 0; aid = replicate aid_most 0; aid_len = 0 }; progress = progress_at_step 0; outcomes = replicate checks 0; card = no_card }

-- The session that an accepted opening gives; the AID is kept with zeros after it.
unfoldable pub opened : ℕ → ℕ → List ℕ → Session
opened mode date aid =
    record {
      opening = record { mode = mode; date = date; aid = over_front aid (replicate aid_most 0); aid_len = length aid };
      progress = progress_at_step 0;
      outcomes = needed_outcomes since mode;
      card = no_card;
    }

unfoldable pub open_refusal : ℕ → ℕ → List ℕ → ℕ
open_refusal mode date aid = refusal_of (open_conditions since mode date aid)

unfoldable pub open_of : ℕ → ℕ → List ℕ → ℕ × Session
open_of mode date aid = cond (eqb (open_refusal mode date aid) 0) (0, opened mode date aid) (open_refusal mode date aid, dead)

-- ---- command

-- The command that is next, as the code has it. Of GET RESPONSE sent again the byte that was replaced is not kept: no call shows it.
abbrev pub next_of : Next → NextCommand
next_of Initial = NextCommand.of_step
next_of (GetResponse second) = NextCommand.get_response second
next_of (InitialAgain last) = NextCommand.again NextCommand.of_step last
next_of (GetResponseAgain last) = NextCommand.again (NextCommand.get_response last) last

-- The same command, to be sent again with another last byte. The last two cases do not arise: a 6C to a command that was sent again is cause 16.
abbrev pub sent_again : Next → ℕ → Next
sent_again Initial last = InitialAgain last
sent_again (GetResponse second) last = GetResponseAgain last
sent_again (InitialAgain former) last = InitialAgain last
sent_again (GetResponseAgain former) last = GetResponseAgain last

-- The bytes of a command in a session, of the step's own, and of the next one.
abbrev pub command_bytes_in : Session → NextCommand → List ℕ
command_bytes_in s command = command_bytes s.opening.mode (take s.opening.aid_len s.opening.aid) s.progress.step command

unfoldable pub initial_in : Session → List ℕ
initial_in s = command_bytes_in s NextCommand.of_step

unfoldable pub command_in : Session → List ℕ
command_in s = command_bytes_in s (next_of s.progress.next)

unfoldable pub command_refusal : Session → ℕ → ℕ
command_refusal s room =
    refusal_of ((4, out_of_range s) ∷ command_conditions s.progress.step s.progress.cause s.progress.outstanding room (length (command_in s)))

-- The next command is outstanding.
abbrev pub progress_sending : SessionProgress → SessionProgress
progress_sending p =
    record { step = p.step; filled = p.filled; outstanding = true; next = p.next; cause = p.cause; sw1 = p.sw1; sw2 = p.sw2 }

unfoldable pub command_of : Session → ℕ → ℕ × ℕ × Session
command_of s room =
    cond (eqb (command_refusal s room) 0) (0, length (command_in s), with_session_progress s (progress_sending s.progress)) (command_refusal s room, 0, s)

-- The lent buffer then.
unfoldable pub command_buffer : Session → List ℕ → List ℕ
command_buffer s out = cond (eqb (command_refusal s (length out)) 0) (over_front (command_in s) out) out

-- ---- answer

unfoldable pub answer_refusal : Session → ℕ → ℕ → ℕ
answer_refusal s size n = refusal_of ((4, out_of_range s) ∷ answer_conditions since s.progress.outstanding size n)

-- A cause ends the reading, with so many bytes of the step's data in the object buffer.
abbrev pub progress_stopped : SessionProgress → ℕ → ℕ → ℕ → ℕ → SessionProgress
progress_stopped p filled cause sw1 sw2 =
    record { step = p.step; filled = filled; outstanding = false; next = p.next; cause = cause; sw1 = sw1; sw2 = sw2 }

-- The step goes on, n bytes being appended, with this command next.
abbrev pub progress_continued : SessionProgress → ℕ → Next → SessionProgress
progress_continued p n next = record { step = p.step; filled = p.filled + n; outstanding = false; next = next; cause = 0; sw1 = 0; sw2 = 0 }

-- Step 1's good end sets checks 3 and 4; FASC-N, expiry and the places of the fields are kept.
abbrev pub step1_end_session : Session → List ℕ → List ℕ → Session
step1_end_session s joined cancelled =
    let mode = s.opening.mode in
    record {
      opening = s.opening;
      progress = progress_at_step (step_after mode 1);
      outcomes = judged_outcomes mode s.opening.date s.outcomes joined cancelled;
      card = record { fascn = fascn_read mode joined; expiry = expiry_read mode joined; step1 = (object_of (kind_at mode 1) joined).1; step2 = s.card.step2 };
    }

-- Step 2's good end: the place of the field BC is kept.
abbrev pub step2_end_session : Session → Part → Session
step2_end_session s part =
    record {
      opening = s.opening;
      progress = progress_at_step 3;
      outcomes = s.outcomes;
      card = record { fascn = s.card.fascn; expiry = s.card.expiry; step1 = s.card.step1; step2 = part };
    }

-- The good end of a step, by its joined data.
unfoldable pub good_end_session : Session → List ℕ → List ℕ → Session
good_end_session s joined cancelled =
    let mode = s.opening.mode in
    cond (eqb s.progress.step 0) (with_session_progress s (progress_at_step (step_after mode 0)))
    (cond (eqb s.progress.step 1) (step1_end_session s joined cancelled) (step2_end_session s (field_part (kind_at mode s.progress.step) biometric_tag joined)))

-- The step's joined data is judged.
unfoldable pub judged_session : Session → List ℕ → List ℕ → Session
judged_session s joined cancelled =
    let k = joined_cause s.opening.mode s.progress.step joined in
    cond (eqb k 0) (good_end_session s joined cancelled) (with_session_progress s (progress_stopped s.progress (length joined) k 0 0))

-- The good end of a step with its number 0, or the cause of its joined data and the session as it was.
unfoldable pub good_end_of : Session → List ℕ → List ℕ → ℕ × Session
good_end_of s joined cancelled =
    let k = joined_cause s.opening.mode s.progress.step joined in
    cond (eqb k 0) (0, good_end_session s joined cancelled) (k, s)

-- The cause of rules 1 to 3.
abbrev pub cause_in : Session → Status → ℕ → ℕ
cause_in s status n =
    rule_cause status (next_of s.progress.next) n s.progress.filled (capacity s.opening.mode s.progress.step)

-- Where the data of the next answer is stored in the object buffer, and the step's joined data once n bytes are.
abbrev pub place_of : SessionProgress → ℕ
place_of p = base_of p.step + p.filled

unfoldable pub joined_in : SessionProgress → List ℕ → ℕ → List ℕ
joined_in p object n = take (p.filled + n) (drop (base_of p.step) object)

-- The command that is next after an answer whose data is appended; none where the step's data is then complete. Any other status word gave cause 16.
abbrev pub next_after : Status → Next → Option Next
next_after Done next = None
next_after (More second) next = Some (GetResponse second)
next_after (Again last) next = Some (sent_again next last)
next_after Other next = None

-- By rules 1 to 3: 0 and the command that is next, or the cause.
unfoldable pub rules_of : Session → Status → ℕ → ℕ × Option Next
rules_of s status n = cond (eqb (cause_in s status n) 0) (0, next_after status s.progress.next) (cause_in s status n, None)

-- By the status of an answer whose data, n bytes, is appended.
abbrev pub appended_session : Status → Session → List ℕ → ℕ → List ℕ → Session
appended_session (More second) s joined n cancelled = with_session_progress s (progress_continued s.progress n (GetResponse second))
appended_session (Again last) s joined n cancelled = with_session_progress s (progress_continued s.progress n (sent_again s.progress.next last))
appended_session Done s joined n cancelled = judged_session s joined cancelled
appended_session Other s joined n cancelled = judged_session s joined cancelled

-- An answer that is accepted.
unfoldable pub answer_taken_session : Session → List ℕ → List ℕ → List ℕ → List ℕ → Session
answer_taken_session s object bytes status cancelled =
    let k = cause_in s (status_of status) (length bytes) in
    cond (eqb k 0)
    (appended_session (status_of status) s (joined_in s.progress (over_places object (place_of s.progress) bytes) (length bytes)) (length bytes) cancelled)
    (with_session_progress s (progress_stopped s.progress s.progress.filled k (status_shown k (get_or status 0 0)) (status_shown k (get_or status 1 0))))

unfoldable pub answer_taken_buffer : Session → List ℕ → List ℕ → List ℕ → List ℕ
answer_taken_buffer s object bytes status =
    cond (eqb (cause_in s (status_of status) (length bytes)) 0) (over_places object (place_of s.progress) bytes) object

unfoldable pub answer_of : Session → List ℕ → List ℕ → List ℕ → ℕ × Session
answer_of s object bytes cancelled =
    let k = answer_refusal s (length object) (length bytes) in
    cond (eqb k 0) (0, answer_taken_session s object (data_of bytes) (status_bytes bytes) cancelled) (k, s)

-- The object buffer then.
unfoldable pub answer_buffer : Session → List ℕ → List ℕ → List ℕ
answer_buffer s object bytes =
    cond (eqb (answer_refusal s (length object) (length bytes)) 0) (answer_taken_buffer s object (data_of bytes) (status_bytes bytes)) object

-- ---- verdict

unfoldable pub verdict_refusal : Session → ℕ → ℕ → List ℕ → ℕ
verdict_refusal s kind yes_no fascn =
    refusal_of ((4, out_of_range s) ∷ verdict_conditions since s.opening.mode s.progress.step s.outcomes kind yes_no fascn)

unfoldable pub verdict_taken_session : Session → ℕ → ℕ → List ℕ → Session
verdict_taken_session s kind yes_no fascn =
    record {
      opening = s.opening;
      progress = s.progress;
      outcomes = with_outcome s.outcomes (check_served kind) (verdict_outcome s.card.fascn yes_no fascn);
      card = s.card;
    }

unfoldable pub verdict_of : Session → ℕ → ℕ → List ℕ → ℕ × Session
verdict_of s kind yes_no fascn =
    let k = verdict_refusal s kind yes_no fascn in
    cond (eqb k 0) (0, verdict_taken_session s kind yes_no fascn) (k, s)

-- ---- field

-- The part of the field with a tag of the step's object, in the step's data: of step 2's object the field BC is the only one that can be asked for.
abbrev pub part_for : Session → ℕ → ℕ → Part
part_for s step tag = cond (eqb step 2) s.card.step2 (part_in (rows_of (kind_at s.opening.mode 1)) s.card.step1 tag)

-- Where the value lies in an object buffer of so many bytes, or the empty part. Its bytes are `field_of` (`place_value`, proofs/CallLaws.antt).
unfoldable pub field_place : Session → ℕ → ℕ → Part
field_place s size tag =
    let step = step_of_tag tag in
    let part = part_for s step tag in
    cond (out_of_range s || field_refused since s.opening.mode s.progress.step size tag) empty (record { start = base_of step + part.start; len = part.len })

-- The value as a part of the object buffer, or the empty part.
unfoldable pub field_of : Session → List ℕ → ℕ → List ℕ
field_of s object tag =
    let step = step_of_tag tag in
    cond (out_of_range s || field_refused since s.opening.mode s.progress.step (length object) tag) [] (bytes_at (drop (base_of step) object) (part_for s step tag))

-- ---- stamp

unfoldable pub stamp_refusal : Session → ℕ → ℕ
stamp_refusal s room = refusal_of ((4, out_of_range s) ∷ stamp_conditions since room)

-- Mode, standing, cause, status word and step.
unfoldable pub stamp_head : Session → List ℕ
stamp_head s =
    let p = s.progress in
    let cause = cause_of p.cause s.outcomes in
    head_of s.opening.mode (standing_of s.opening.mode p.step cause s.outcomes) cause (status_shown p.cause p.sw1) (status_shown p.cause p.sw2) p.step

unfoldable pub stamp_in : Session → List ℕ
stamp_in s = stamp_layout (stamp_head s) s.outcomes s.opening.date s.card.fascn s.card.expiry

unfoldable pub stamp_answer : Session → ℕ → ℕ × Session
stamp_answer s room = (stamp_refusal s room, s)

unfoldable pub stamp_buffer : Session → List ℕ → List ℕ
stamp_buffer s out = cond (eqb (stamp_refusal s (length out)) 0) (over_front (stamp_in s) out) out

-- ---- preview (document 02, request 6)

unfoldable pub preview_refusal : Session → ℕ → ℕ → List ℕ → ℕ → ℕ
preview_refusal s kind yes_no fascn room =
    refusal_of ((4, out_of_range s) ∷ preview_conditions since s.opening.mode s.progress.step s.outcomes kind yes_no fascn room)

-- "a verdict call on a copy of the session, followed by a stamp call": where the verdict call is accepted the number of the stamp call and the lent buffer as that leaves it; where
-- it is refused its number, and the buffer as it was. No session is handed back. The number is `preview_refusal` (`two_calls_number`, proofs/PreviewLaws.antt).
unfoldable pub preview_of : Session → ℕ → ℕ → List ℕ → List ℕ → ℕ × List ℕ
preview_of s kind yes_no fascn out =
    let copy = verdict_of s kind yes_no fascn in
    cond (eqb copy.0 0) ((stamp_answer copy.1 (length out)).0, stamp_buffer copy.1 out) (copy.0, out)
