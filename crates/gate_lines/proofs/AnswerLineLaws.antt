-- An answer line is never declined for want of room: for every history the command fits the buffer that the program lends, the object buffer keeps its size, and where
-- that is document 01's no answer line says 7. Assumes nothing.
use mathlib.Core.Path.{◌≡◌, refl, sym, ap, ap₂, ◌∙◌}
use mathlib.Core.Bool.{Bool, true, false, cond, not, ◌&&◌, ◌||◌}
use mathlib.Core.List.{List, [], ◌∷◌, ◌++◌, map}
use Prim.Native.Nat.{ℕ, ◌+◌, ◌≤◌}
use native.Mathlib.Omega.{arith}
use borrow.Author.Tests.{eqb-true, eq-eqb, ne_eqb, le-ltb, leb-true, not-true}
use lib.Dec.{eqb, leb}
use lib.ListN.{length}
use Rattle.common.specs.Refusal.{refusal_of}
use Rattle.card.specs.Date.{real_date}
use Rattle.card.specs.Command.{aid_refused, status_of}
use Rattle.common.proofs.ListsLaws.{length_over}
use Rattle.session.specs.Tables.{Figures, since, mode_in_range, status_size, answer_most, object_size, capacity, data_of, status_bytes, ends}
use Rattle.session.specs.Condition.{open_conditions, nothing_to_send, answer_conditions, verdict_conditions}
use Rattle.session.specs.Ranges.{out_of_range}
use Rattle.session.specs.Reading.{Arguments, Reading, begins, with_progress, sending, next_command, command_refused, answer_refused, read, reading}
use Rattle.session.specs.Operation.{open_refusal, open_of, next_of, cause_in, place_of, answer_refusal, answer_of, answer_taken_buffer, answer_buffer, verdict_refusal, verdict_of}
use Rattle.session.specs.Promise.{Call, arguments_of, call_number, History, finish, reading_of}
use Rattle.session.specs.declared.state.Session.{Session}
use Rattle.common.proofs.TestLaws.{and_left, and_right, clash, either}
use Rattle.common.proofs.ConditionLaws.{not_named}
use Rattle.session.proofs.FigureLaws.{base_fits}
use Rattle.session.proofs.RuleLaws.{rule_fits}
use Rattle.session.proofs.SendLaws.{command_length}
use Rattle.session.proofs.CallLaws.{Fitting, answer_fits}
use Rattle.session.proofs.RunLaws.{zero_or}
use Rattle.session.proofs.Invariant.{Invariant}
use Rattle.session.proofs.PromiseLaws.{reached, promise}
use Rattle.gate_lines.specs.Line.{GateLine, line_in}
use Rattle.gate_lines.specs.Gate.{Gate, gate_after, has_room, command_room, commanded, fresh, Reply, reply_by, reply_to}
use Rattle.gate_lines.specs.Run.{run_lines, command_call, SinceOpen, with_calls, Reached, number_for, ended, answer_for}

-- ---- the command has room

-- the next command has at most 22 bytes
next_most : (r : Reading) (m : List ℕ) → Invariant r m → length (next_command r) ≤ command_room
next_most r m i = (command_length r.opening.mode r.opening.aid r.progress.step r.progress.next).1 (not-true (aid_refused r.opening.aid) (and_right (mode_in_range since r.opening.mode && real_date r.opening.date) (not (aid_refused r.opening.aid)) i.opening))

-- so 6 is never its number
command_by : (r : Reading) (m : List ℕ) (room : ℕ) → Invariant r m → command_room ≤ room
    → command_refused r room ≡ cond (nothing_to_send r.progress.step r.progress.cause r.progress.outstanding) 5 0
unfolding command_refused
command_by r m room i h = rw (le-ltb room (length (next_command r)) (omega (arith, h, next_most r m i)))

pub room_enough : (h : History) (out : List ℕ) → command_room ≤ length out → call_number (finish h) (Call.command out) ≡ 6 → ⊥
room_enough h out l e =
    let a = reached h in
    let r = reading_of h in
    let k = command_by r a.object (length out) a.holds l in
    not_named 6 ((5, nothing_to_send r.progress.step r.progress.cause r.progress.outstanding) ∷ []) refl (sym k ∙ sym ((promise h).command_number out) ∙ e)

-- ---- after the command call a command is outstanding, but where the reading has ended

outstanding_by : (b : Bool) (r : Reading) → (cond b (with_progress r (sending r.progress)) r).progress.outstanding ≡ cond b true r.progress.outstanding
outstanding_by true r = refl
outstanding_by false r = refl

sends : (over o : Bool) → (o ≡ true → over ≡ false) → cond (eqb (cond {A = ℕ} (over || o) 5 0) 0) true o ≡ not over
sends true true f = f refl
sends true false f = refl
sends false true f = refl
sends false false f = refl

not_over : (step cause : ℕ) (o : Bool) → not o || (leb step 2 && eqb cause 0) ≡ true → o ≡ true → eqb step 3 || ends cause ≡ false
not_over step cause true g e =
    let low : step ≤ 2 = leb-true step 2 (and_left (leb step 2) (eqb cause 0) g) in
    rw (ne_eqb step 3 (λ (z : step ≡ 3). omega (arith, low, z)), eqb-true cause 0 (and_right (leb step 2) (eqb cause 0) g))
not_over step cause false g e = clash e

sent_outstanding : (r : Reading) (m : List ℕ) → Invariant r m → (read r (Arguments.command command_room)).progress.outstanding ≡ not (ended r)
unfolding read
sent_outstanding r m i =
    let p = r.progress in
    outstanding_by (eqb (command_refused r command_room) 0) r ∙ rw (command_by r m command_room i (omega arith)) (sends (ended r) p.outstanding (not_over p.step p.cause p.outstanding i.progress_good.outstanding))

-- ---- the number of an answer line

sent_figures : (r : Reading) → (read r (Arguments.command command_room)).figures ≡ r.figures
unfolding read
sent_figures r = either (λ (q : Reading). q.figures ≡ r.figures) (eqb (command_refused r command_room) 0) refl refl

answer_next : (h : History) (size n : ℕ) → answer_refused (read (reading_of h) (Arguments.command command_room)) size n ≡ refusal_of (answer_conditions since (not (ended (reading_of h))) size n)
unfolding answer_refused
answer_next h size n =
    let a = reached h in
    ap₂ (λ (f : Figures) (o : Bool). refusal_of (answer_conditions f o size n)) (sent_figures (reading_of h) ∙ a.holds.figures) (sent_outstanding (reading_of h) a.object a.holds)

reading_last : (cs : List Call) (r : Reading) (c : Call) → reading r (map arguments_of (cs ++ (c ∷ []))) ≡ read (reading r (map arguments_of cs)) (arguments_of c)
reading_last [] r c = refl
reading_last (x ∷ cs) r c = reading_last cs (read r (arguments_of x)) c

pub answer_line_number : (t : SinceOpen) (u : Gate) (object bytes keys : List ℕ) → Reached t u
    → number_for (with_calls t (command_call ∷ [])) (Call.answer object bytes keys) ≡ answer_for t (length object) (length bytes)
answer_line_number SinceOpen.none u object bytes keys l = refl
answer_line_number (SinceOpen.from o b cs) u object bytes keys l =
    ap (λ (r : Reading). answer_refused r (length object) (length bytes)) (reading_last cs (begins since o) command_call)
    ∙ rw (← l.opening, ← l.made) (answer_next l.history (length object) (length bytes))

-- ---- the object buffer keeps its size

where_true : {A : Type 0} (P : A → Type 0) (b : Bool) {x y : A} → (b ≡ true → P x) → P y → P (cond b x y)
where_true P true f q = f refl
where_true P false f q = q

answer_size : (s : Session) (object bytes : List ℕ) → length (answer_buffer s object bytes) ≡ length object
unfolding answer_buffer answer_taken_buffer
answer_size s object bytes =
    where_true (λ (l : List ℕ). length l ≡ length object) (eqb (answer_refusal s (length object) (length bytes)) 0)
    (λ e. where_true (λ (l : List ℕ). length l ≡ length object) (eqb (cause_in s (status_of (status_bytes bytes)) (length (data_of bytes))) 0)
    (λ k. length_over object (data_of bytes) (place_of s.progress) (inside (answer_fits s (length object) (length bytes) (eqb-true _ 0 e)) (eqb-true _ 0 k))) refl) refl
  where
    inside : Fitting s (length object) (length bytes) → cause_in s (status_of (status_bytes bytes)) (length (data_of bytes)) ≡ 0 → place_of s.progress + length (data_of bytes) ≤ length object
    inside f k =
        let most = capacity s.opening.mode s.progress.step in
        let room = rule_fits (status_of (status_bytes bytes)) (next_of s.progress.next) (length (data_of bytes)) s.progress.filled most k in
        omega (arith, room, base_fits s.opening.mode s.progress.step, f.whole)

pub line_size_lem : (g : Gate) (line : GateLine) → length (gate_after g line).object ≡ length g.object
unfolding gate_after
line_size_lem g (GateLine.card key) = where_true (λ (x : Gate). length x.object ≡ length g.object) (has_room g) (λ e. refl) refl
line_size_lem g (GateLine.opening mode date aid) = where_true (λ (x : Gate). length x.object ≡ length g.object) (eqb (open_of mode date aid).0 0) (λ e. refl) refl
line_size_lem g (GateLine.answer bytes) = answer_size (commanded g) g.object bytes
line_size_lem g (GateLine.verdict kind yes_no fascn) = refl
line_size_lem g GateLine.bad = refl

pub run_size : (ls : List (List ℕ)) (g : Gate) → length (run_lines g ls).object ≡ length g.object
unfolding run_lines
run_size [] g = refl
run_size (l ∷ ls) g = run_size ls (gate_after g (line_in l)) ∙ line_size_lem g (line_in l)

-- ---- so 7 is never an answer line's number

-- the number in what a line prints
abbrev number_in : Reply → ℕ
number_in Reply.ok = 0
number_in (Reply.refused n) = n
number_in Reply.bad = 0

number_by : (k : ℕ) → number_in (reply_by k) ≡ k
number_by k = by (eqb k 0) refl
  where
    by : (b : Bool) → eqb k 0 ≡ b → number_in (cond b Reply.ok (Reply.refused k)) ≡ k
    by true e = sym (eqb-true k 0 e)
    by false e = refl

not_seven : (s : Session) (object bytes keys : List ℕ) → length object ≡ object_size → (answer_of s object bytes keys).0 ≡ 7 → ⊥
unfolding answer_of answer_refusal
not_seven s object bytes keys size e =
    let k : answer_refusal s (length object) (length bytes) ≡ 7 = sym (zero_or (answer_refusal s (length object) (length bytes)) _ _ _ refl) ∙ e in
    not_named 7 ((4, out_of_range s) ∷ (5, not s.progress.outstanding) ∷ (8, not (leb status_size (length bytes) && leb (length bytes) answer_most)) ∷ []) refl (rw (eq-eqb (length object) object_size size) at k)

-- nor an opening's or a verdict's: it is none of their numbers
opening_not_seven : (mode date : ℕ) (aid : List ℕ) → (open_of mode date aid).0 ≡ 7 → ⊥
unfolding open_of open_refusal
opening_not_seven mode date aid e = not_named 7 (open_conditions since mode date aid) refl (sym (zero_or (open_refusal mode date aid) _ _ _ refl) ∙ e)

verdict_not_seven : (s : Session) (kind yes_no : ℕ) (fascn : List ℕ) → (verdict_of s kind yes_no fascn).0 ≡ 7 → ⊥
unfolding verdict_of verdict_refusal
verdict_not_seven s kind yes_no fascn e =
    not_named 7 ((4, out_of_range s) ∷ verdict_conditions since s.opening.mode s.progress.step s.outcomes kind yes_no fascn) refl
    (sym (zero_or (verdict_refusal s kind yes_no fascn) _ _ _ refl) ∙ e)

-- the object buffer has document 01's size, where the line lends it
abbrev pub Sized : Gate → GateLine → Type 0
Sized g (GateLine.card key) = Unit
Sized g (GateLine.opening mode date aid) = Unit
Sized g (GateLine.answer bytes) = length g.object ≡ object_size
Sized g (GateLine.verdict kind yes_no fascn) = Unit
Sized g GateLine.bad = Unit

seven : {k : ℕ} {r : Reply} → r ≡ reply_by k → r ≡ Reply.refused 7 → k ≡ 7
seven {k} e z = sym (number_by k) ∙ ap number_in (sym e ∙ z)

pub line_not_seven : (g : Gate) (line : GateLine) (reply : Reply) → Sized g line → reply ≡ reply_to g line → reply ≡ Reply.refused 7 → ⊥
unfolding reply_to
line_not_seven g (GateLine.card key) reply size e z = by (has_room g) (ap number_in (sym e ∙ z))
  where
    by : (b : Bool) → number_in (cond b Reply.ok Reply.bad) ≡ 7 → ⊥
    by true q = let n : ◌≡◌ {A = ℕ} 0 7 = q in omega arith
    by false q = let n : ◌≡◌ {A = ℕ} 0 7 = q in omega arith
line_not_seven g (GateLine.opening mode date aid) reply size e z = opening_not_seven mode date aid (seven e z)
line_not_seven g (GateLine.answer bytes) reply size e z = not_seven (commanded g) g.object bytes g.keys size (seven e z)
line_not_seven g (GateLine.verdict kind yes_no fascn) reply size e z = verdict_not_seven g.session kind yes_no fascn (seven e z)
line_not_seven g GateLine.bad reply size e z = let n : ◌≡◌ {A = ℕ} 0 7 = ap number_in (sym e ∙ z) in omega arith

-- with an object buffer of the right size, after every list of lines
pub never_seven : (object : List ℕ) (ls : List (List ℕ)) (bytes : List ℕ) → length object ≡ object_size → reply_to (run_lines (fresh object) ls) (GateLine.answer bytes) ≡ Reply.refused 7 → ⊥
never_seven object ls bytes size = line_not_seven (run_lines (fresh object) ls) (GateLine.answer bytes) _ (run_size ls (fresh object) ∙ size) refl
