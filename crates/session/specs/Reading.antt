-- Document 01's reading, with requests 1, 6 and 7 of document 02, of an opening and a list of calls: "fed the opening's mode, date and AID and each call's arguments (not the
-- session, and only the length of the object buffer), never a result". It knows lists of bytes, and no session, no buffer and no place in one.
-- It is read by the figures with which it begins.
-- Assumes nothing.
use Rattle.std.specs.Prelude.{Bool, true, false, cond, ◌&&◌, List, [], ◌∷◌, ◌++◌, ℕ, ◌+◌, eqb, length, get_or, replicate}
use Rattle.std.proofs.Math.Option.{Option}
use Rattle.common.specs.Refusal.{refusal_of}
use Rattle.card.specs.Fascn.{fascn_bytes}
use Rattle.card.specs.Object.{field_value}
use Rattle.card.specs.Command.{status_of}
use Rattle.card.specs.declared.command.Status.{Status}
use Rattle.card.specs.declared.command.Status.TheVariants.{Done, More, Again, Other}
use Rattle.session.specs.Tables.{Figures, check_served, needed_outcomes, with_outcome, verdict_outcome, judged_outcomes, kind_at, step_after, capacity, step_of_tag, NextCommand, command_bytes, data_of, status_bytes, rule_cause, status_shown, fascn_read, joined_cause}
use Rattle.session.specs.Condition.{command_conditions, answer_conditions, verdict_conditions, stamp_conditions, preview_conditions}

-- ---- what the reading is fed

-- The opening's mode, date and AID.
pub record Opening : Type 0 where
  pub mode : ℕ
  pub date : ℕ
  pub aid : List ℕ

-- A call's arguments; of a buffer that it is lent, the length alone.
pub data Arguments : Type 0 where
  command : (room : ℕ) → Arguments
  answer : (size : ℕ) (bytes cancelled : List ℕ) → Arguments
  verdict : (kind yes_no : ℕ) (fascn : List ℕ) → Arguments
  field : (size tag : ℕ) → Arguments
  stamp : (room : ℕ) → Arguments
  preview : (kind yes_no : ℕ) (fascn : List ℕ) (room : ℕ) → Arguments

-- ---- what is read

-- The step, the cause (16 to 22, or 0) with the status word of the answer that gave cause 16, the step's joined data, whether a command is outstanding, and the
-- next command.
pub record Progress : Type 0 where
  pub step : ℕ
  pub cause : ℕ
  pub sw1 : ℕ
  pub sw2 : ℕ
  pub joined : List ℕ
  pub outstanding : Bool
  pub next : NextCommand

-- Step 1's joined data at its good end, and the list lent with the answer that ended it.
pub record StepOne : Type 0 where
  pub joined : List ℕ
  pub cancelled : List ℕ

-- A verdict that was accepted.
pub record Verdict : Type 0 where
  pub kind : ℕ
  pub yes_no : ℕ
  pub fascn : List ℕ

-- What the good ends of steps 1 and 2 gave, and the accepted verdicts, the last one first.
pub record Found : Type 0 where
  pub step1 : Option StepOne
  pub step2 : Option (List ℕ)
  pub verdicts : List Verdict

pub record Reading : Type 0 where
  pub figures : Figures
  pub opening : Opening
  pub progress : Progress
  pub outcomes : List ℕ
  pub found : Found

-- ---- how it begins

-- A step begins: no data of its own yet, and its command is next.
abbrev pub at_step : ℕ → Progress
at_step step = record { step = step; cause = 0; sw1 = 0; sw2 = 0; joined = []; outstanding = false; next = NextCommand.of_step }

-- "It starts at step 0 with no cause, no data, no command outstanding, SELECT next, needed outcomes 1, others 0." By the figures `before` request 7, or those `since`.
abbrev pub begins : Figures → Opening → Reading
begins f o =
    record { figures = f; opening = o; progress = at_step 0; outcomes = needed_outcomes f o.mode; found = record { step1 = Option.none; step2 = Option.none; verdicts = [] } }

abbrev pub with_progress : Reading → Progress → Reading
with_progress r p = record { figures = r.figures; opening = r.opening; progress = p; outcomes = r.outcomes; found = r.found }

-- ---- a command call: "makes the next command outstanding"

abbrev pub next_command : Reading → List ℕ
next_command r = command_bytes r.opening.mode r.opening.aid r.progress.step r.progress.next

unfoldable pub command_refused : Reading → ℕ → ℕ
command_refused r room =
    refusal_of (command_conditions r.progress.step r.progress.cause r.progress.outstanding room (length (next_command r)))

abbrev pub sending : Progress → Progress
sending p =
    record { step = p.step; cause = p.cause; sw1 = p.sw1; sw2 = p.sw2; joined = p.joined; outstanding = true; next = p.next }

-- ---- an answer call: "ends that and follows the rules above"

unfoldable pub answer_refused : Reading → ℕ → ℕ → ℕ
answer_refused r size n = refusal_of (answer_conditions r.figures r.progress.outstanding size n)

-- "A cause of 16 to 22 ends the reading at that step for good." The joined data is what the step had, or, where it was judged, what was appended to that too.
abbrev pub stopped : Progress → List ℕ → ℕ → ℕ → ℕ → Progress
stopped p joined cause sw1 sw2 =
    record { step = p.step; cause = cause; sw1 = sw1; sw2 = sw2; joined = joined; outstanding = false; next = p.next }

-- The step goes on, with this command next.
abbrev pub continued : Progress → List ℕ → NextCommand → Progress
continued p joined next = record { step = p.step; cause = 0; sw1 = 0; sw2 = 0; joined = joined; outstanding = false; next = next }

-- Step 1's good end sets checks 3 and 4; what was read is kept, with the list.
abbrev pub step1_end : Reading → List ℕ → List ℕ → Reading
step1_end r joined cancelled =
    let mode = r.opening.mode in
    record {
      figures = r.figures;
      opening = r.opening;
      progress = at_step (step_after mode 1);
      outcomes = judged_outcomes mode r.opening.date r.outcomes joined cancelled;
      found = record { step1 = Option.some (record { joined = joined; cancelled = cancelled }); step2 = r.found.step2; verdicts = r.found.verdicts };
    }

-- Step 2's good end: what was read is kept.
abbrev pub step2_end : Reading → List ℕ → Reading
step2_end r joined =
    record {
      figures = r.figures;
      opening = r.opening;
      progress = at_step (step_after r.opening.mode 2);
      outcomes = r.outcomes;
      found = record { step1 = r.found.step1; step2 = Option.some joined; verdicts = r.found.verdicts };
    }

-- The good end of a step: the next step begins.
unfoldable pub good_end : Reading → List ℕ → List ℕ → Reading
good_end r joined cancelled =
    cond (eqb r.progress.step 0) (with_progress r (at_step (step_after r.opening.mode 0)))
    (cond (eqb r.progress.step 1) (step1_end r joined cancelled) (step2_end r joined))

-- The step's joined data is judged.
unfoldable pub judged : Reading → List ℕ → List ℕ → Reading
judged r joined cancelled =
    let k = joined_cause r.opening.mode r.progress.step joined in
    cond (eqb k 0) (good_end r joined cancelled) (with_progress r (stopped r.progress joined k 0 0))

-- Rule 4: "the data is appended. After 61 GET RESPONSE is next. After 90 00 the step's joined data is judged". An answer 6C "without data now makes the next command the same
-- one with its last byte replaced by the second status byte" (document 02, request 1): it has nothing to append. Any other status word gave cause 16 by rule 1, and does
-- not come here.
abbrev pub appended : Status → Reading → List ℕ → List ℕ → Reading
appended (More second) r joined cancelled = with_progress r (continued r.progress joined (NextCommand.get_response second))
appended (Again last) r joined cancelled = with_progress r (continued r.progress joined (NextCommand.again r.progress.next last))
appended Done r joined cancelled = judged r joined cancelled
appended Other r joined cancelled = judged r joined cancelled

-- Rules 1 to 3 on the step's joined data.
abbrev pub cause_by : Progress → ℕ → Status → List ℕ → ℕ
cause_by p most status bytes = rule_cause status p.next (length bytes) (length p.joined) most

-- The effect of an answer, "first rule that fits".
unfoldable pub answer_taken : Reading → List ℕ → List ℕ → List ℕ → Reading
answer_taken r bytes status cancelled =
    let k = cause_by r.progress (capacity r.opening.mode r.progress.step) (status_of status) bytes in
    cond (eqb k 0) (appended (status_of status) r (r.progress.joined ++ bytes) cancelled)
    (with_progress r (stopped r.progress r.progress.joined k (status_shown k (get_or status 0 0)) (status_shown k (get_or status 1 0))))

-- ---- a verdict call: "sets its check's outcome"

-- Step 1's FASC-N; zeros before its good end.
abbrev pub own_fascn : ℕ → Option StepOne → List ℕ
own_fascn mode Option.none = replicate fascn_bytes 0
own_fascn mode (Option.some f) = fascn_read mode f.joined

unfoldable pub verdict_refused : Reading → ℕ → ℕ → List ℕ → ℕ
verdict_refused r kind yes_no fascn =
    refusal_of (verdict_conditions r.figures r.opening.mode r.progress.step r.outcomes kind yes_no fascn)

abbrev pub verdict_taken : Reading → ℕ → ℕ → List ℕ → Reading
verdict_taken r kind yes_no fascn =
    record {
      figures = r.figures;
      opening = r.opening;
      progress = r.progress;
      outcomes = with_outcome r.outcomes (check_served kind) (verdict_outcome (own_fascn r.opening.mode r.found.step1) yes_no fascn);
      found = record { step1 = r.found.step1; step2 = r.found.step2; verdicts = record { kind = kind; yes_no = yes_no; fascn = fascn } ∷ r.found.verdicts };
    }

-- ---- a preview

unfoldable pub preview_refused : Reading → ℕ → ℕ → List ℕ → ℕ → ℕ
preview_refused r kind yes_no fascn room =
    refusal_of (preview_conditions r.figures r.opening.mode r.progress.step r.outcomes kind yes_no fascn room)

-- ---- every call

-- Every call has a number but the field call: "the empty part, no number".
abbrev pub has_number : Arguments → Bool
has_number (Arguments.command room) = true
has_number (Arguments.answer size bytes cancelled) = true
has_number (Arguments.verdict kind yes_no fascn) = true
has_number (Arguments.field size tag) = false
has_number (Arguments.stamp room) = true
has_number (Arguments.preview kind yes_no fascn room) = true

-- The number that refuses a call, by its arguments and the reading; 0 where none does, and for a field call, of which it is not asked.
abbrev pub refused_by : Reading → Arguments → ℕ
refused_by r (Arguments.command room) = command_refused r room
refused_by r (Arguments.answer size bytes cancelled) = answer_refused r size (length bytes)
refused_by r (Arguments.verdict kind yes_no fascn) = verdict_refused r kind yes_no fascn
refused_by r (Arguments.field size tag) = 0
refused_by r (Arguments.stamp room) = refusal_of (stamp_conditions r.figures room)
refused_by r (Arguments.preview kind yes_no fascn room) = preview_refused r kind yes_no fascn room

-- What a call that is accepted makes of the reading. "Field and stamp calls change nothing"; nor does a preview, which "hands back no session" (document 02, request 6).
abbrev pub accepted : Reading → Arguments → Reading
accepted r (Arguments.command room) = with_progress r (sending r.progress)
accepted r (Arguments.answer size bytes cancelled) = answer_taken r (data_of bytes) (status_bytes bytes) cancelled
accepted r (Arguments.verdict kind yes_no fascn) = verdict_taken r kind yes_no fascn
accepted r (Arguments.field size tag) = r
accepted r (Arguments.stamp room) = r
accepted r (Arguments.preview kind yes_no fascn room) = r

-- "A call that a condition below fits is refused and changes nothing."
unfoldable pub read : Reading → Arguments → Reading
read r t = cond (eqb (refused_by r t) 0) (accepted r t) r

abbrev pub reading : Reading → List Arguments → Reading
reading r [] = r
reading r (t ∷ ts) = reading (read r t) ts

-- The numbers of the calls of a list that have one.
abbrev pub refusals : Reading → List Arguments → List ℕ
refusals r [] = []
refusals r (t ∷ ts) = let later = refusals (read r t) ts in cond (has_number t) (refused_by r t ∷ later) later

-- ---- fields

-- The joined data of step 1 or 2 at its good end; none before it.
abbrev pub joined_one : Option StepOne → List ℕ
joined_one Option.none = []
joined_one (Option.some f) = f.joined

abbrev pub joined_two : Option (List ℕ) → List ℕ
joined_two Option.none = []
joined_two (Option.some joined) = joined

abbrev pub joined_at : Found → ℕ → List ℕ
joined_at f step = cond (eqb step 2) (joined_two f.step2) (joined_one f.step1)

-- "the field's value in its step's joined data"; empty for another tag, and for a field not yet read or absent.
unfoldable pub field_in : Reading → ℕ → List ℕ
field_in r tag =
    let step = step_of_tag tag in
    cond (eqb step 0) [] (field_value (kind_at r.opening.mode step) tag (joined_at r.found step))

-- What a field call gives of a step's joined data where it was lent a buffer of so many bytes: nothing for refusal 7.
abbrev pub field_for : Reading → ℕ → ℕ → List ℕ
field_for r size tag = cond (eqb size r.figures.object_size) (field_in r tag) []

-- ---- answers taken

abbrev pub is_answer : Arguments → Bool
is_answer (Arguments.command room) = false
is_answer (Arguments.answer size bytes cancelled) = true
is_answer (Arguments.verdict kind yes_no fascn) = false
is_answer (Arguments.field size tag) = false
is_answer (Arguments.stamp room) = false
is_answer (Arguments.preview kind yes_no fascn room) = false

-- An answer is taken by this call.
abbrev pub takes : Reading → Arguments → Bool
takes r t = is_answer t && eqb (refused_by r t) 0

-- How many answers of a list are taken in a step, and in all.
abbrev pub answers_in : ℕ → Reading → List Arguments → ℕ
answers_in step r [] = 0
answers_in step r (t ∷ ts) = cond (takes r t && eqb r.progress.step step) 1 0 + answers_in step (read r t) ts

abbrev pub answers : Reading → List Arguments → ℕ
answers r [] = 0
answers r (t ∷ ts) = cond (takes r t) 1 0 + answers (read r t) ts
