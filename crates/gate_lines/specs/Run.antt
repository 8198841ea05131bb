-- The whole run: a list of lines, the calls that they make on the session, and what is printed for each line and at the end, by document 01's reading of those calls.
-- Assumes nothing.
use Rattle.std.specs.Prelude.{◌≡◌, Bool, cond, not, List, [], ◌∷◌, ◌++◌, map, ℕ, eqb, length, replicate}
use Rattle.common.specs.Refusal.{refusal_of}
use Rattle.session.specs.Tables.{since}
use Rattle.session.specs.Condition.{nothing_left, open_conditions, answer_conditions}
use Rattle.session.specs.Operation.{dead, open_of}
use Rattle.session.specs.Reading.{Opening, Reading, begins, refused_by, reading}
use Rattle.session.specs.Finding.{finding, stamp_of}
use Rattle.session.specs.Promise.{Call, arguments_of, History, finish}
use Rattle.session.specs.declared.state.Session.{Session}
use Rattle.gate_lines.specs.Line.{GateLine, line_in}
use Rattle.gate_lines.specs.Gate.{Gate, gate_after, has_room, Reply, reply_by, reply_to, reply_text, command_room, fresh, refused_text, stamp_text, end_text}

-- ---- a list of lines

unfoldable pub run_lines : Gate → List (List ℕ) → Gate
run_lines g [] = g
run_lines g (l ∷ ls) = run_lines (gate_after g (line_in l)) ls

-- What is printed for the lines, and with what is printed at the end.
unfoldable pub printed : Gate → List (List ℕ) → List ℕ
printed g [] = []
printed g (l ∷ ls) = reply_text (reply_to g (line_in l)) ++ printed (gate_after g (line_in l)) ls

unfoldable pub output : Gate → List (List ℕ) → List ℕ
output g ls = printed g ls ++ end_text (run_lines g ls).session

-- ---- the calls that the lines make

-- "Before each answer it makes the command call itself"
abbrev pub command_call : Call
command_call = Call.command (replicate command_room 0)

-- The calls of one line, with all that they are lent. An opening begins anew and is no call on a session.
abbrev pub calls_of : Gate → GateLine → List Call
calls_of g (GateLine.card key) = []
calls_of g (GateLine.opening mode date aid) = []
calls_of g (GateLine.answer bytes) = command_call ∷ Call.answer g.object bytes g.keys ∷ []
calls_of g (GateLine.verdict kind yes_no fascn) = Call.verdict kind yes_no fascn ∷ []
calls_of g GateLine.bad = []

-- Since the last accepted opening: that opening, the object buffer at that time, and the calls made since. Before the first there is none.
pub data SinceOpen : Type 0 where
  none : SinceOpen
  from : (opening : Opening) (object : List ℕ) (calls : List Call) → SinceOpen

abbrev pub with_calls : SinceOpen → List Call → SinceOpen
with_calls SinceOpen.none calls = SinceOpen.none
with_calls (SinceOpen.from o object before) calls = SinceOpen.from o object (before ++ calls)

abbrev pub since_line : Gate → SinceOpen → GateLine → SinceOpen
since_line g t (GateLine.card key) = t
since_line g t (GateLine.opening mode date aid) =
    cond (eqb (open_of mode date aid).0 0) (SinceOpen.from (record { mode = mode; date = date; aid = aid }) g.object []) t
since_line g t (GateLine.answer bytes) = with_calls t (calls_of g (GateLine.answer bytes))
since_line g t (GateLine.verdict kind yes_no fascn) = with_calls t (calls_of g (GateLine.verdict kind yes_no fascn))
since_line g t GateLine.bad = t

unfoldable pub since_lines : Gate → SinceOpen → List (List ℕ) → SinceOpen
since_lines g t [] = t
since_lines g t (l ∷ ls) = since_lines (gate_after g (line_in l)) (since_line g t (line_in l)) ls

-- From the program's start.
abbrev pub since_open : Gate → List (List ℕ) → SinceOpen
since_open g ls = since_lines g SinceOpen.none ls

-- ---- what is promised

-- The session and the object buffer are those of a history with this opening, first object buffer and list of calls: demand 3 is about it.
pub record ReachedBy (o : Opening) (object : List ℕ) (calls : List Call) (g : Gate) : Type 0 where
  pub history : History
  pub opening : history.opening ≡ o
  pub buffer : history.object ≡ object
  pub made : history.calls ≡ calls
  pub host : finish history ≡ record { session = g.session; object = g.object }

abbrev pub Reached : SinceOpen → Gate → Type 0
Reached SinceOpen.none g = g.session ≡ dead
Reached (SinceOpen.from o object calls) g = ReachedBy o object calls g

-- "Which calls are refused is read from the list too": the number that the reading of the calls since the last accepted opening gives to a call made next; 4 where no
-- opening was accepted.
abbrev pub number_for : SinceOpen → Call → ℕ
number_for SinceOpen.none c = 4
number_for (SinceOpen.from o object calls) c = refused_by (reading (begins since o) (map arguments_of calls)) (arguments_of c)

-- Of a reading: nothing is left to read.
abbrev pub ended : Reading → Bool
ended r = nothing_left r.progress.step r.progress.cause

-- The number of an answer line, by the calls before the line. It makes the command call first, for which it has room enough; a command is then outstanding, but where the
-- reading has ended. So 5 is left where it has, 7 by the object buffer's size, and 8 by the answer's.
abbrev pub answer_for : SinceOpen → ℕ → ℕ → ℕ
answer_for SinceOpen.none size n = 4
answer_for (SinceOpen.from o object calls) size n = refusal_of (answer_conditions since (not (ended (reading (begins since o) (map arguments_of calls)))) size n)

-- What a line prints: an opening by document 01's conditions on its values, an answer and a verdict by the reading of the calls before. Of the state g this looks at the
-- count of the cards and at the size of the object buffer.
abbrev pub reply_for : SinceOpen → Gate → GateLine → Reply
reply_for t g (GateLine.card key) = cond (has_room g) Reply.ok Reply.bad
reply_for t g (GateLine.opening mode date aid) = reply_by (refusal_of (open_conditions since mode date aid))
reply_for t g (GateLine.answer bytes) = reply_by (answer_for t (length g.object) (length bytes))
reply_for t g (GateLine.verdict kind yes_no fascn) = reply_by (number_for t (Call.verdict kind yes_no fascn))
reply_for t g GateLine.bad = Reply.bad

-- What is printed for a list of lines.
unfoldable pub printed_for : Gate → SinceOpen → List (List ℕ) → List ℕ
printed_for g t [] = []
printed_for g t (l ∷ ls) = reply_text (reply_for t g (line_in l)) ++ printed_for (gate_after g (line_in l)) (since_line g t (line_in l)) ls

-- What is printed at the end: the stamp of the finding that is read from that opening and those calls.
abbrev pub end_for : SinceOpen → List ℕ
end_for SinceOpen.none = refused_text 4
end_for (SinceOpen.from o object calls) = stamp_text (stamp_of (finding (reading (begins since o) (map arguments_of calls))))

-- What is promised of the reply to a line.
pub record ReplyPromised (t : SinceOpen) (g : Gate) (line : GateLine) (reply : Reply) : Type 0 where
  pub is : reply ≡ reply_for t g line
  -- of an answer line this is the reading's number for the answer call, after the calls before and the command call
  pub answer : (bytes : List ℕ) → line ≡ GateLine.answer bytes → reply ≡ reply_by (number_for (with_calls t (command_call ∷ [])) (Call.answer g.object bytes g.keys))

-- As the contracts of the code carry it: for every object buffer and every list of lines that lead to the session.
abbrev pub ReplyPromise : Gate → GateLine → Reply → Type 0
ReplyPromise g line reply =
    (object : List ℕ) (ls : List (List ℕ)) → g.session ≡ (run_lines (fresh object) ls).session → ReplyPromised (since_open (fresh object) ls) g line reply

abbrev pub EndPromise : Session → List ℕ → Type 0
EndPromise s text = (object : List ℕ) (ls : List (List ℕ)) → s ≡ (run_lines (fresh object) ls).session → text ≡ end_for (since_open (fresh object) ls)
