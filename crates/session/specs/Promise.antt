-- Demand 3, with requests 1, 6 and 7 of document 02. A host makes any list of calls, one after another, from a session freshly opened; what then holds of the stamp, command,
-- field and preview call made next, of every call of the list, of the list with previews taken out, and of two such lists. The run goes by the definitions that the contracts
-- cite; the reading is fed the calls' arguments, and never a result.
-- Assumes nothing.
use Rattle.std.specs.Prelude.{◌≡◌, Bool, true, cond, not, ◌&&◌, ◌↔◌, List, [], ◌∷◌, ◌++◌, map, ℕ, ◌+◌, ◌≤◌, ◌<◌, eqb, length, get_or, take}
use Rattle.common.specs.Lists.{over_front}
use Rattle.card.specs.Date.{real_date}
use Rattle.card.specs.Command.{aid_refused}
use Rattle.card.specs.Object.{bytes_at}
use Rattle.card.specs.declared.object.Part.{Part}
use Rattle.session.specs.Tables.{Figures, since, mode_in_range, stands_granted, answers_most, stamp_size}
use Rattle.session.specs.Ranges.{in_range}
use Rattle.session.specs.Operation.{opened, command_of, command_buffer, answer_refusal, answer_of, answer_buffer, verdict_of, field_of, stamp_answer, stamp_buffer, preview_of}
use Rattle.session.specs.Reading.{Opening, Arguments, Reading, begins, next_command, has_number, refused_by, reading, refusals, field_in, field_for, answers_in, answers}
use Rattle.session.specs.Finding.{finding, standing, stamp_of, Granted}
use Rattle.session.specs.declared.state.Session.{Session}

-- ---- calls, and a host that makes them

-- A call on the session, with all that it is lent.
pub data Call : Type 0 where
  command : (out : List ℕ) → Call
  answer : (object bytes cancelled : List ℕ) → Call
  verdict : (kind yes_no : ℕ) (fascn : List ℕ) → Call
  field : (object : List ℕ) (tag : ℕ) → Call
  stamp : (out : List ℕ) → Call
  preview : (kind yes_no : ℕ) (fascn out : List ℕ) → Call

-- What the reading is fed of it.
abbrev pub arguments_of : Call → Arguments
arguments_of (Call.command out) = Arguments.command (length out)
arguments_of (Call.answer object bytes cancelled) = Arguments.answer (length object) bytes cancelled
arguments_of (Call.verdict kind yes_no fascn) = Arguments.verdict kind yes_no fascn
arguments_of (Call.field object tag) = Arguments.field (length object) tag
arguments_of (Call.stamp out) = Arguments.stamp (length out)
arguments_of (Call.preview kind yes_no fascn out) = Arguments.preview kind yes_no fascn (length out)

-- The session and the object buffer as the last call left them.
pub record Host : Type 0 where
  pub session : Session
  pub object : List ℕ

-- The number that the call gives, 0 where it is accepted, and for a field call, of which it is not asked.
abbrev pub call_number : Host → Call → ℕ
call_number h (Call.command out) = (command_of h.session (length out)).0
call_number h (Call.answer object bytes cancelled) = (answer_of h.session object bytes cancelled).0
call_number h (Call.verdict kind yes_no fascn) = (verdict_of h.session kind yes_no fascn).0
call_number h (Call.field object tag) = 0
call_number h (Call.stamp out) = (stamp_answer h.session (length out)).0
call_number h (Call.preview kind yes_no fascn out) = (preview_of h.session kind yes_no fascn out).0

-- "Each gets the session as the call before left it"; "only the list's answer calls write" the object buffer. A preview "hands back no session": the host keeps the one it has.
abbrev pub host_after : Host → Call → Host
host_after h (Call.command out) = record { session = (command_of h.session (length out)).2; object = h.object }
host_after h (Call.answer object bytes cancelled) =
    record {
      session = (answer_of h.session object bytes cancelled).1;
      object = cond (eqb (answer_refusal h.session (length object) (length bytes)) 0) (answer_buffer h.session object bytes) h.object;
    }
host_after h (Call.verdict kind yes_no fascn) = record { session = (verdict_of h.session kind yes_no fascn).1; object = h.object }
host_after h (Call.field object tag) = h
host_after h (Call.stamp out) = record { session = (stamp_answer h.session (length out)).1; object = h.object }
host_after h (Call.preview kind yes_no fascn out) = h

abbrev pub run_calls : Host → List Call → Host
run_calls h [] = h
run_calls h (c ∷ cs) = run_calls (host_after h c) cs

-- The numbers of the calls that have one.
abbrev pub numbers : Host → List Call → List ℕ
numbers h [] = []
numbers h (c ∷ cs) = let later = numbers (host_after h c) cs in cond (has_number (arguments_of c)) (call_number h c ∷ later) later

-- Every number of the list is a byte.
abbrev pub Bytes : List ℕ → Type 0
Bytes s = (i : ℕ) → get_or s i 0 < 256

-- "The answer and field calls not refused are lent one and the same object buffer"; a refused one may be lent anything. A field call changes nothing, so that in the list it
-- may be lent anything too. An answer is bytes.
abbrev pub LentNow : Host → Call → Type 0
LentNow h (Call.command out) = Unit
LentNow h (Call.answer object bytes cancelled) = (call_number h (Call.answer object bytes cancelled) ≡ 0 → object ≡ h.object) × Bytes bytes
LentNow h (Call.verdict kind yes_no fascn) = Unit
LentNow h (Call.field object tag) = Unit
LentNow h (Call.stamp out) = Unit
LentNow h (Call.preview kind yes_no fascn out) = Unit

abbrev pub Lent : Host → List Call → Type 0
Lent h [] = Unit
Lent h (c ∷ cs) = LentNow h c × Lent (host_after h c) cs

-- ---- a history: a good opening, any first content of the object buffer, and a list of calls

abbrev pub good_opening : Figures → Opening → Bool
good_opening f o = (mode_in_range f o.mode && real_date o.date) && not (aid_refused o.aid)

abbrev pub host : Opening → List ℕ → Host
host o object = record { session = opened o.mode o.date o.aid; object = object }

pub record History : Type 0 where
  pub opening : Opening
  pub good : good_opening since opening ≡ true
  pub object : List ℕ
  pub calls : List Call
  pub lent : Lent (host opening object) calls

-- Where it begins and ends, the calls as the reading is fed them, and the reading of it.
abbrev pub start_host : History → Host
start_host h = host h.opening h.object

abbrev pub finish : History → Host
finish h = run_calls (start_host h) h.calls

abbrev pub arguments_in : History → List Arguments
arguments_in h = map arguments_of h.calls

abbrev pub reading_of : History → Reading
reading_of h = reading (begins since h.opening) (arguments_in h)

-- The reading of the list with a call at its end.
abbrev pub reading_with : History → Call → Reading
reading_with h c = reading (begins since h.opening) (map arguments_of (h.calls ++ (c ∷ [])))

-- ---- what each call of a list gives, and the list with previews taken out

-- What a call gives beside the session: its number, 0 for a field call; the count of a command call; and the bytes then in the buffer that it may write, of a field call those of
-- the part.
pub record Result : Type 0 where
  pub number : ℕ
  pub count : ℕ
  pub bytes : List ℕ

abbrev pub count_of : Host → Call → ℕ
count_of h (Call.command out) = (command_of h.session (length out)).1
count_of h (Call.answer object bytes cancelled) = 0
count_of h (Call.verdict kind yes_no fascn) = 0
count_of h (Call.field object tag) = 0
count_of h (Call.stamp out) = 0
count_of h (Call.preview kind yes_no fascn out) = 0

abbrev pub bytes_of : Host → Call → List ℕ
bytes_of h (Call.command out) = command_buffer h.session out
bytes_of h (Call.answer object bytes cancelled) = answer_buffer h.session object bytes
bytes_of h (Call.verdict kind yes_no fascn) = []
bytes_of h (Call.field object tag) = field_of h.session object tag
bytes_of h (Call.stamp out) = stamp_buffer h.session out
bytes_of h (Call.preview kind yes_no fascn out) = (preview_of h.session kind yes_no fascn out).1

abbrev pub result_of : Host → Call → Result
result_of h c = record { number = call_number h c; count = count_of h c; bytes = bytes_of h c }

abbrev pub results : Host → List Call → List Result
results h [] = []
results h (c ∷ cs) = result_of h c ∷ results (host_after h c) cs

-- A list of calls, some of its previews marked to be taken out.
pub data Marked : Type 0 where
  kept : (c : Call) → Marked
  removed : (kind yes_no : ℕ) (fascn out : List ℕ) → Marked

-- All its calls, and those that are kept.
abbrev pub all_calls : List Marked → List Call
all_calls [] = []
all_calls (Marked.kept c ∷ ms) = c ∷ all_calls ms
all_calls (Marked.removed kind yes_no fascn out ∷ ms) = Call.preview kind yes_no fascn out ∷ all_calls ms

abbrev pub kept_calls : List Marked → List Call
kept_calls [] = []
kept_calls (Marked.kept c ∷ ms) = c ∷ kept_calls ms
kept_calls (Marked.removed kind yes_no fascn out ∷ ms) = kept_calls ms

-- What those that are kept give where all are made.
abbrev pub kept_results : Host → List Marked → List Result
kept_results h [] = []
kept_results h (Marked.kept c ∷ ms) = result_of h c ∷ kept_results (host_after h c) ms
kept_results h (Marked.removed kind yes_no fascn out ∷ ms) = kept_results (host_after h (Call.preview kind yes_no fascn out)) ms

-- "It may stand anywhere in a list without altering later stamps": the calls that are kept are a history too, each gives what it gave among all, and they end with the same session,
-- buffer and reading, so that every call made next gives the same too.
pub record PreviewsOut (h : History) (ms : List Marked) : Type 0 where
  pub history : History
  pub opening : history.opening ≡ h.opening
  pub buffer : history.object ≡ h.object
  pub calls : history.calls ≡ kept_calls ms
  pub results : kept_results (start_host h) ms ≡ results (start_host history) history.calls
  pub host : finish h ≡ finish history
  pub reading : reading_of h ≡ reading_of history

-- ---- the promise

-- What a stamp call leaves in its buffer, and what a command call gives and leaves, by the reading.
abbrev pub stamp_for : Reading → List ℕ → List ℕ
stamp_for r out = cond (eqb (refused_by r (Arguments.stamp (length out))) 0) (over_front (stamp_of (finding r)) out) out

abbrev pub count_for : Reading → ℕ → ℕ
count_for r room = cond (eqb (refused_by r (Arguments.command room)) 0) (length (next_command r)) 0

abbrev pub command_for : Reading → List ℕ → List ℕ
command_for r out = cond (eqb (refused_by r (Arguments.command (length out))) 0) (over_front (next_command r) out) out

-- What a preview leaves: the stamp of the finding of the list with that verdict call at its end.
abbrev pub preview_for : History → ℕ → ℕ → List ℕ → List ℕ → List ℕ
preview_for h kind yes_no fascn out =
    cond (eqb (refused_by (reading_of h) (Arguments.preview kind yes_no fascn (length out))) 0)
    (over_front (stamp_of (finding (reading_with h (Call.verdict kind yes_no fascn)))) out) out

pub record Promise (h : History) : Type 0 where
  -- a: a stamp call made next is refused by the reading's number, or writes the 46 bytes of the finding and leaves the rest
  pub stamp_number : (out : List ℕ) → call_number (finish h) (Call.stamp out) ≡ refused_by (reading_of h) (Arguments.stamp (length out))
  pub stamp_bytes : (out : List ℕ) → stamp_buffer (finish h).session out ≡ stamp_for (reading_of h) out
  -- b: a command call made next is refused by the reading's number, or writes the reading's next command and gives its count
  pub command_number : (out : List ℕ) → call_number (finish h) (Call.command out) ≡ refused_by (reading_of h) (Arguments.command (length out))
  pub command_count : (out : List ℕ) → (command_of (finish h).session (length out)).1 ≡ count_for (reading_of h) (length out)
  pub command_bytes : (out : List ℕ) → command_buffer (finish h).session out ≡ command_for (reading_of h) out
  -- c: a field call made next, lent the host's buffer, gives the field's value in its step's joined data
  pub field_value : (tag : ℕ) → field_of (finish h).session (finish h).object tag ≡ field_in (reading_of h) tag
  -- where the reading has none, or the buffer lent has another size, the part is empty, whatever is in it
  pub field_empty : (object : List ℕ) (tag : ℕ) → field_for (reading_of h) (length object) tag ≡ [] → field_of (finish h).session object tag ≡ []
  -- d: each call of the list that has a number was refused where the reading says so, by that number; refusal 4 fits none
  pub refused : numbers (start_host h) h.calls ≡ refusals (begins since h.opening) (arguments_in h)
  pub never_four : (i : ℕ) → get_or (numbers (start_host h) h.calls) i 0 ≡ 4 → ⊥
  pub in_range : in_range (finish h).session ≡ true
  -- e: "Two such stamps, from whatever two openings, are equal exactly when their two lists have the same finding."
  pub apart : (u : History) → (stamp_of (finding (reading_of h)) ≡ stamp_of (finding (reading_of u))) ↔ (finding (reading_of h) ≡ finding (reading_of u))
  -- f: granted, said of the calls
  pub granted : (standing (finding (reading_of h)) ≡ stands_granted) ↔ Granted (reading_of h)
  -- g: at most 8,196 answers are taken in a step, 32,772 in step 2 of modes 5 and 6; and 24,588 in all, 49,164 in these modes
  pub answers_step : (step : ℕ) → answers_in step (begins since h.opening) (arguments_in h) ≤ answers_most h.opening.mode step
  pub answers-all : let most = answers_most h.opening.mode in answers (begins since h.opening) (arguments_in h) ≤ most 0 + most 1 + most 2
  -- h: a preview made next is refused by the reading's number, or writes the 46 bytes of the finding of the list with that verdict call at its end and leaves the rest
  pub preview_number : (kind yes_no : ℕ) (fascn out : List ℕ)
      → call_number (finish h) (Call.preview kind yes_no fascn out) ≡ refused_by (reading_of h) (Arguments.preview kind yes_no fascn (length out))
  pub preview_bytes : (kind yes_no : ℕ) (fascn out : List ℕ) → (preview_of (finish h).session kind yes_no fascn out).1 ≡ preview_for h kind yes_no fascn out
  -- i: taking any of the list's previews out alters nothing else
  pub previews_out : (ms : List Marked) → all_calls ms ≡ h.calls → PreviewsOut h ms

-- ---- the promise as the contracts carry it: for every history that reaches the session of the call; n is the number that the call gives, and `session` what it hands back

-- The session and the buffer that a call leaves are those of the history with that call at its end.
pub record ExtendedBy (h : History) (c : Call) (session : Session) (object : List ℕ) : Type 0 where
  pub history : History
  pub opening : history.opening ≡ h.opening
  pub buffer : history.object ≡ h.object
  pub calls : history.calls ≡ h.calls ++ (c ∷ [])
  pub host : finish history ≡ record { session = session; object = object }

-- An opening that is accepted begins a history, with any object buffer.
pub record OpenedBy (o : Opening) (session : Session) (object : List ℕ) : Type 0 where
  pub history : History
  pub opening : history.opening ≡ o
  pub buffer : history.object ≡ object
  pub calls : history.calls ≡ []
  pub host : finish history ≡ record { session = session; object = object }

abbrev pub OpenPromise : ℕ → ℕ → List ℕ → ℕ → Session → Type 0
OpenPromise mode date aid n session = n ≡ 0 → (object : List ℕ) → OpenedBy (record { mode = mode; date = date; aid = aid }) session object

-- The count that a command call gives is m.
pub record CommandPromised (h : History) (before left : List ℕ) (n m : ℕ) (session : Session) : Type 0 where
  pub number : n ≡ refused_by (reading_of h) (Arguments.command (length before))
  pub count : m ≡ count_for (reading_of h) (length before)
  pub bytes : left ≡ command_for (reading_of h) before
  pub result : result_of (finish h) (Call.command before) ≡ record { number = n; count = m; bytes = left }
  pub extended : ExtendedBy h (Call.command before) session (finish h).object

abbrev pub CommandPromise : Session → List ℕ → List ℕ → ℕ → ℕ → Session → Type 0
CommandPromise s before left n m session = (h : History) → s ≡ (finish h).session → CommandPromised h before left n m session

-- The host's buffer is then what an accepted answer left in it; one that is refused may have been lent another, and leaves the host's as it was.
pub record AnswerPromised (h : History) (object bytes cancelled left : List ℕ) (n : ℕ) (session : Session) : Type 0 where
  pub number : n ≡ refused_by (reading_of h) (Arguments.answer (length object) bytes cancelled)
  pub result : result_of (finish h) (Call.answer object bytes cancelled) ≡ record { number = n; count = 0; bytes = left }
  pub extended : ExtendedBy h (Call.answer object bytes cancelled) session (cond (eqb n 0) left (finish h).object)

abbrev pub AnswerPromise : Session → List ℕ → List ℕ → List ℕ → List ℕ → ℕ → Session → Type 0
AnswerPromise s object bytes cancelled left n session =
    (h : History) → s ≡ (finish h).session → (n ≡ 0 → object ≡ (finish h).object) → AnswerPromised h object bytes cancelled left n session

pub record VerdictPromised (h : History) (kind yes_no : ℕ) (fascn : List ℕ) (n : ℕ) (session : Session) : Type 0 where
  pub number : n ≡ refused_by (reading_of h) (Arguments.verdict kind yes_no fascn)
  pub result : result_of (finish h) (Call.verdict kind yes_no fascn) ≡ record { number = n; count = 0; bytes = [] }
  pub extended : ExtendedBy h (Call.verdict kind yes_no fascn) session (finish h).object

abbrev pub VerdictPromise : Session → ℕ → ℕ → List ℕ → ℕ → Session → Type 0
VerdictPromise s kind yes_no fascn n session = (h : History) → s ≡ (finish h).session → VerdictPromised h kind yes_no fascn n session

-- Lent the host's buffer, it gives the field's value; a field that the reading has not is the empty part of whatever buffer was lent, and so is every field of a buffer of
-- another size. The host's buffer stays.
pub record FieldPromised (h : History) (s : Session) (object : List ℕ) (tag : ℕ) (part : List ℕ) : Type 0 where
  pub value : object ≡ (finish h).object → part ≡ field_in (reading_of h) tag
  pub empty : field_for (reading_of h) (length object) tag ≡ [] → part ≡ []
  pub result : result_of (finish h) (Call.field object tag) ≡ record { number = 0; count = 0; bytes = part }
  pub extended : ExtendedBy h (Call.field object tag) s (finish h).object

abbrev pub FieldPromise : Session → List ℕ → ℕ → List ℕ → Type 0
FieldPromise s object tag part = (h : History) → s ≡ (finish h).session → FieldPromised h s object tag part

-- Of the place of a field, the same is said of the bytes that stand there in any buffer of that size.
abbrev pub PlacePromise : Session → ℕ → ℕ → Part → Type 0
PlacePromise s size tag place = (object : List ℕ) → length object ≡ size → FieldPromise s object tag (bytes_at object place)

-- What the first 46 bytes of a buffer say that are the stamp of a reading: the second is granted exactly where the calls say so, and all are the stamp of any other history
-- exactly where the two findings are the same.
pub record StampSays (r : Reading) (left : List ℕ) : Type 0 where
  pub granted : (get_or left 1 0 ≡ stands_granted) ↔ Granted r
  pub apart : (u : History) → (take (stamp_size since) left ≡ stamp_of (finding (reading_of u))) ↔ (finding r ≡ finding (reading_of u))

pub record StampPromised (h : History) (before left : List ℕ) (n : ℕ) (session : Session) : Type 0 where
  pub number : n ≡ refused_by (reading_of h) (Arguments.stamp (length before))
  pub bytes : left ≡ stamp_for (reading_of h) before
  pub says : n ≡ 0 → StampSays (reading_of h) left
  pub result : result_of (finish h) (Call.stamp before) ≡ record { number = n; count = 0; bytes = left }
  pub extended : ExtendedBy h (Call.stamp before) session (finish h).object

abbrev pub StampPromise : Session → List ℕ → List ℕ → ℕ → Session → Type 0
StampPromise s before left n session = (h : History) → s ≡ (finish h).session → StampPromised h before left n session

-- What a preview writes says of the list with that verdict call at its end, which is a history too, what a stamp says of its list. The session stays.
pub record PreviewPromised (h : History) (s : Session) (kind yes_no : ℕ) (fascn before left : List ℕ) (n : ℕ) : Type 0 where
  pub number : n ≡ refused_by (reading_of h) (Arguments.preview kind yes_no fascn (length before))
  pub bytes : left ≡ preview_for h kind yes_no fascn before
  pub says : n ≡ 0 → StampSays (reading_with h (Call.verdict kind yes_no fascn)) left
  pub result : result_of (finish h) (Call.preview kind yes_no fascn before) ≡ record { number = n; count = 0; bytes = left }
  pub extended : ExtendedBy h (Call.preview kind yes_no fascn before) s (finish h).object

abbrev pub PreviewPromise : Session → ℕ → ℕ → List ℕ → List ℕ → List ℕ → ℕ → Type 0
PreviewPromise s kind yes_no fascn before left n = (h : History) → s ≡ (finish h).session → PreviewPromised h s kind yes_no fascn before left n
