-- Cards that correct the length (document 02, request 1), said of lists of calls: what a 6C does, by the answer that was taken before it, and what any other status word does.
-- Assumes nothing.
use mathlib.Core.Path.{◌≡◌, refl, sym, ◌∙◌}
use mathlib.Core.Bool.{Bool, true, false, cond, or-true}
use mathlib.Core.List.{List, [], ◌∷◌, ◌++◌, append-nil}
use Prim.Native.Nat.{ℕ, ◌+◌, ◌-◌}
use native.Mathlib.Omega.{arith}
use borrow.Author.Tests.{le-ltb, ne_eqb}
use lib.Dec.{eqb}
use lib.ListN.{length, get_or, length-append}
use lib.Seq.{take-append_seam, drop-append_seam}
use Rattle.common.specs.Lists.{all, same_bytes}
use Rattle.card.specs.Command.{select_bytes, get_data_bytes, get_response_bytes, with_last, status_of}
use Rattle.card.specs.declared.command.Status.{Status}
use Rattle.card.specs.declared.command.Status.TheVariants.{Done, More, Again, Other}
use Rattle.card.proofs.CommandLaws.{before_last, status_other}
use Rattle.session.specs.Tables.{Figures, status_cause, ends, kind_at, capacity, NextCommand, command_bytes, is_response, is_sent_again, data_of, status_bytes, rule_cause, joined_cause}
use Rattle.session.specs.Reading.{Opening, Arguments, Reading, begins, with_progress, next_command, sending, command_refused, answer_refused, verdict_refused, verdict_taken, stopped, continued, good_end, judged, appended, cause_by, answer_taken, refused_by, read, reading, takes}
use Rattle.session.specs.Operation.{place_of, cause_in, answer_taken_buffer}
use Rattle.session.specs.declared.state.Session.{Session}
use Rattle.common.proofs.TestLaws.{clash, by_case, by_and, either}
use Rattle.common.proofs.ListsLaws.{over_none}
use Rattle.session.proofs.SendLaws.{command_length}
use Rattle.session.proofs.RuleLaws.{rule_in_range, joined_in_range}
use Rattle.session.proofs.CountLaws.{arose_ends, taken_sent, countable_all}

-- ---- the status of the answer taken before

-- 6C with any second byte.
abbrev pub is_again : Status → Bool
is_again Done = false
is_again (More second) = false
is_again (Again last) = true
is_again Other = false

-- The status of an answer; of another call it is not asked.
abbrev status_in : Arguments → Status
status_in (Arguments.command room) = Done
status_in (Arguments.answer size bytes cancelled) = status_of (status_bytes bytes)
status_in (Arguments.verdict kind yes_no fascn) = Done
status_in (Arguments.field size tag) = Done
status_in (Arguments.stamp room) = Done
status_in (Arguments.preview kind yes_no fascn room) = Done

-- The status of the last answer that is taken of a list of calls; the first argument where none is.
abbrev pub last_status : Status → Reading → List Arguments → Status
last_status status r [] = status
last_status status r (t ∷ ts) = last_status (cond (takes r t) (status_in t) status) (read r t) ts

-- where the reading has not ended, the next command is one sent again exactly where the last status was a 6C
abbrev LastWas : Status → Reading → Type 0
LastWas status r = ends r.progress.cause ≡ false → is_sent_again r.progress.next ≡ is_again status

stopped_last : (r : Reading) (status : Status) (joined : List ℕ) (k a b : ℕ) → ends k ≡ true → LastWas status (with_progress r (stopped r.progress joined k a b))
stopped_last r status joined k a b e z = clash (sym z ∙ e)

-- a step that begins sends its own command
judged_last : (r : Reading) (status : Status) (joined cancelled : List ℕ) → is_again status ≡ false → LastWas status (judged r joined cancelled)
unfolding judged good_end
judged_last r status joined cancelled e =
    let k = joined_cause r.opening.mode r.progress.step joined in
    by_case (LastWas status) _ _ (eqb k 0)
    (λ _. either (LastWas status) (eqb r.progress.step 0) (λ _. sym e) (either (LastWas status) (eqb r.progress.step 1) (λ _. sym e) (λ _. sym e)))
    (λ z. stopped_last r status joined k 0 0 (arose_ends k (joined_in_range r.opening.mode r.progress.step joined) z))

appended_last : (status : Status) (r : Reading) (joined cancelled : List ℕ) → LastWas status (appended status r joined cancelled)
appended_last (More second) r joined cancelled = λ _. refl
appended_last (Again last) r joined cancelled = λ _. refl
appended_last Done r joined cancelled = judged_last r Done joined cancelled refl
appended_last Other r joined cancelled = judged_last r Other joined cancelled refl

taken_last : (r : Reading) (bytes status cancelled : List ℕ) → LastWas (status_of status) (answer_taken r bytes status cancelled)
unfolding answer_taken
taken_last r bytes status cancelled =
    let most = capacity r.opening.mode r.progress.step in
    let k = cause_by r.progress most (status_of status) bytes in
    by_case (LastWas (status_of status)) _ _ (eqb k 0) (λ _. appended_last (status_of status) r (r.progress.joined ++ bytes) cancelled)
    (λ z. stopped_last r (status_of status) r.progress.joined k 0 0 (arose_ends k (rule_in_range (status_of status) r.progress.next (length bytes) (length r.progress.joined) most) z))

-- the status before the call, or that of the answer that it takes
abbrev LastOf : Status → Status → Bool → Reading → Type 0
LastOf before status taken q = LastWas (cond taken status before) q

call_last : (r : Reading) (t : Arguments) (before : Status) → LastWas before r → LastWas (cond (takes r t) (status_in t) before) (read r t)
unfolding read
call_last r (Arguments.command room) before m = by_and (LastOf before Done) false (eqb (command_refused r room) 0) (with_progress r (sending r.progress)) r m (λ _. m)
call_last r (Arguments.answer size bytes cancelled) before m =
    by_and (LastOf before (status_of (status_bytes bytes))) true (eqb (answer_refused r size (length bytes)) 0) _ r m (λ _. taken_last r (data_of bytes) (status_bytes bytes) cancelled)
call_last r (Arguments.verdict kind yes_no fascn) before m = by_and (LastOf before Done) false (eqb (verdict_refused r kind yes_no fascn) 0) (verdict_taken r kind yes_no fascn) r m (λ _. m)
call_last r (Arguments.field size tag) before m = by_and (LastOf before Done) false (eqb (refused_by r (Arguments.field size tag)) 0) r r m (λ _. m)
call_last r (Arguments.stamp room) before m = by_and (LastOf before Done) false (eqb (refused_by r (Arguments.stamp room)) 0) r r m (λ _. m)
call_last r (Arguments.preview kind yes_no fascn room) before m = by_and (LastOf before Done) false (eqb (refused_by r (Arguments.preview kind yes_no fascn room)) 0) r r m (λ _. m)

list_last : (ts : List Arguments) (r : Reading) (before : Status) → LastWas before r → LastWas (last_status before r ts) (reading r ts)
list_last [] r before m = m
list_last (t ∷ ts) r before m = list_last ts (read r t) (cond (takes r t) (status_in t) before) (call_last r t before m)

-- "straight after": as long as the reading has not ended, the next command is one sent again exactly where the answer taken last was a 6C
pub after_answer : (f : Figures) (o : Opening) (ts : List Arguments) → let r = reading (begins f o) ts in ends r.progress.cause ≡ false → is_sent_again r.progress.next ≡ is_again (last_status Done (begins f o) ts)
after_answer f o ts = list_last ts (begins f o) Done (λ _. refl)

-- ---- the command that is sent again

-- "the command was GET RESPONSE" (rule 2), said of its bytes: the second one is C0, with whatever last byte it is sent
pub response_bytes : (mode : ℕ) (aid : List ℕ) (step : ℕ) (c : NextCommand) → is_response c ≡ eqb (get_or (command_bytes mode aid step c) 1 0) 0xC0
unfolding command_bytes select_bytes get_data_bytes get_response_bytes
response_bytes mode aid step NextCommand.of_step = by (eqb step 0)
  where
    by : (b : Bool) → false ≡ eqb (get_or (cond b (select_bytes aid) (get_data_bytes (kind_at mode step))) 1 0) 0xC0
    by true = refl
    by false = refl
response_bytes mode aid step (NextCommand.get_response second) = one second
  where
    one : (x : ℕ) → true ≡ eqb (get_or (get_response_bytes x) 1 0) 0xC0
    one x = refl
response_bytes mode aid step (NextCommand.again c last) = let n = (command_length mode aid step c).0 in rw (before_last (command_bytes mode aid step c) last 1 (omega (arith, n))) (response_bytes mode aid step c)

corrected_command : (r : Reading) (joined : List ℕ) (last : ℕ) → next_command (with_progress r (continued r.progress joined (NextCommand.again r.progress.next last))) ≡ with_last (next_command r) last
unfolding command_bytes
corrected_command r joined last = refl

-- ---- what a 6C does

module _ (f : Figures) (o : Opening) (ts : List Arguments) (size last : ℕ) (cancelled : List ℕ) where
  -- the reading, and whether the answer taken last was a 6C
  abbrev r : Reading
  r = reading (begins f o) ts

  abbrev after : Bool
  after = is_again (last_status Done (begins f o) ts)

  after_taken : (n : ℕ) → answer_refused r size n ≡ 0 → is_sent_again r.progress.next ≡ after
  after_taken n e = after_answer f o ts ((countable_all f o ts).sent (taken_sent r size n e)).1

  -- a 6C without data: nothing is appended, and the command is to be sent again
  pub first_6c : answer_refused r size 2 ≡ 0 → after ≡ false
      → read r (Arguments.answer size (0x6C ∷ last ∷ []) cancelled) ≡ with_progress r (continued r.progress r.progress.joined (NextCommand.again r.progress.next last))
  unfolding read answer_taken rule_cause status_of same_bytes all
  first_6c e x =
      let m = (countable_all f o ts).small in
      rw (e, after_taken 2 e, x, le-ltb (capacity r.opening.mode r.progress.step) (length r.progress.joined + 0) (omega (arith, m)), append-nil)

  -- "makes the next command the same one with its last byte replaced by the second status byte"
  pub first_6c_sends : answer_refused r size 2 ≡ 0 → after ≡ false → next_command (read r (Arguments.answer size (0x6C ∷ last ∷ []) cancelled)) ≡ with_last (next_command r) last
  first_6c_sends e x = rw (first_6c e x) (corrected_command r r.progress.joined last)

  -- "It counts as taken."
  pub taken_6c : answer_refused r size 2 ≡ 0 → takes r (Arguments.answer size (0x6C ∷ last ∷ []) cancelled) ≡ true
  taken_6c e = rw e

  -- "A second 6C straight after the first is cause 16"
  pub second_6c : answer_refused r size 2 ≡ 0 → after ≡ true
      → read r (Arguments.answer size (0x6C ∷ last ∷ []) cancelled) ≡ with_progress r (stopped r.progress r.progress.joined status_cause 0x6C last)
  unfolding read answer_taken rule_cause status_of same_bytes all
  second_6c e x = rw (e, after_taken 2 e, x)

  stops_data : (bytes : List ℕ) → (length bytes ≡ 0 → ⊥) → answer_taken r bytes (0x6C ∷ last ∷ []) cancelled ≡ with_progress r (stopped r.progress r.progress.joined status_cause 0x6C last)
  unfolding answer_taken rule_cause status_of same_bytes all
  stops_data bytes x = simp (ne_eqb _ _ x, or-true)

  -- an answer is its data and its status
  taken_as : (xs : List ℕ) (a b : ℕ) → let bytes = xs ++ (a ∷ b ∷ []) in answer_refused r size (length bytes) ≡ 0 → read r (Arguments.answer size bytes cancelled) ≡ answer_taken r xs (a ∷ b ∷ []) cancelled
  unfolding read
  taken_as xs a b e =
      let n : length (xs ++ (a ∷ b ∷ [])) - 2 ≡ length xs = rw length-append (omega arith) in
      rw (e, n, take-append_seam, drop-append_seam)

  -- "and so is a 6C with data"
  pub data_6c : (xs : List ℕ) → (length xs ≡ 0 → ⊥) → let bytes = xs ++ (0x6C ∷ last ∷ []) in answer_refused r size (length bytes) ≡ 0
      → read r (Arguments.answer size bytes cancelled) ≡ with_progress r (stopped r.progress r.progress.joined status_cause 0x6C last)
  data_6c xs x e = taken_as xs 0x6C last e ∙ stops_data xs x

  stops_other : (xs : List ℕ) (a b : ℕ) → status_of (a ∷ b ∷ []) ≡ Other → answer_taken r xs (a ∷ b ∷ []) cancelled ≡ with_progress r (stopped r.progress r.progress.joined status_cause a b)
  unfolding answer_taken rule_cause
  stops_other xs a b e = rw e

  -- "Status neither 90 00 nor 61 with any second byte: cause 16, data dropped", of every status word that does not begin with 6C either
  pub other_status : (xs : List ℕ) (a b : ℕ) → same_bytes (a ∷ b ∷ []) (0x90 ∷ 0x00 ∷ []) ≡ false → (a ≡ 0x61 → ⊥) → (a ≡ 0x6C → ⊥) → let bytes = xs ++ (a ∷ b ∷ []) in answer_refused r size (length bytes) ≡ 0
      → read r (Arguments.answer size bytes cancelled) ≡ with_progress r (stopped r.progress r.progress.joined status_cause a b)
  other_status xs a b p x y e = taken_as xs a b e ∙ stops_other xs a b (status_other a b p x y)

-- an answer without data, such as a first 6C, leaves the object buffer as it was
pub no_data_stays : (s : Session) (object status : List ℕ) → answer_taken_buffer s object [] status ≡ object
unfolding answer_taken_buffer
no_data_stays s object status =
    either (λ (m : List ℕ). m ≡ object) (eqb (cause_in s (status_of status) 0) 0) (over_none object (place_of s.progress)) refl
