-- At most 8,196 answers are taken in a step, and 24,588 in all (`answers_most`), whatever the calls are: a law of the reading.
-- Assumes nothing.
use mathlib.Core.Path.{◌≡◌, refl, sym, subst}
use mathlib.Core.Bool.{Bool, true, false, cond, ◌&&◌, ◌||◌}
use mathlib.Core.List.{List, [], ◌∷◌, ◌++◌}
use Prim.Native.Nat.{ℕ, zero, suc, ◌+◌, ◌*◌, ◌≤◌, ◌<◌}
use native.Mathlib.Omega.{arith}
use lib.Dec.{eqb, ltb}
use lib.ListN.{length, length-append}
use borrow.Author.Tests.{ltb-false, eqb-true, eqb-false, not-false}
use Rattle.card.specs.Command.{status_of}
use Rattle.card.specs.declared.command.Status.{Status}
use Rattle.card.specs.declared.command.Status.TheVariants.{Done, More, Again, Other}
use Rattle.session.specs.Tables.{Figures, status_cause, empty_cause, full_cause, ends, has_step2, capacity, answers_most, NextCommand, is_response, is_sent_again, data_of, status_bytes, rule_cause, joined_cause}
use Rattle.session.specs.Ranges.{cause_in_range}
use Rattle.session.specs.Condition.{command_conditions, answer_conditions}
use Rattle.session.specs.Reading.{Opening, Arguments, Progress, Reading, begins, at_step, next_command, command_refused, sending, answer_refused, stopped, continued, step1_end, step2_end, good_end, judged, appended, cause_by, answer_taken, verdict_refused, verdict_taken, refused_by, read, reading, takes, answers_in, answers}
use Rattle.common.proofs.TestLaws.{clash, or_left, or_right, by_case, by_and, either}
use Rattle.common.proofs.ConditionLaws.{none_fit}
use Rattle.session.proofs.LeftLaws.{left, left_most, Onward, left_falls}
use Rattle.session.proofs.RuleLaws.{rule_in_range, rule_fits, rule_again, joined_in_range}

-- a cause that did arise ends the reading
pub arose_ends : (k : ℕ) → cause_in_range k ≡ true → eqb k 0 ≡ false → ends k ≡ true
arose_ends k p q = rw q at p

-- ---- how many answers may still be taken

-- what the answers taken in a step have used up: the first may come without data, every later one after which more data is asked for brings a byte, a 6C may come
-- before each, and the last may end the reading
abbrev asked : Progress → ℕ
asked c = cond (is_response c.next) (length c.joined + 1) 0

abbrev used : Progress → ℕ
used c = 2 * asked c + cond (is_sent_again c.next) 1 0 + cond (ends c.cause) 1 0

-- ---- a call

abbrev budget : ℕ → ℕ → Progress → ℕ
budget mode k c = left mode k c.step (used c)

-- what the count asks of the progress of a reading
pub record Countable (mode : ℕ) (c : Progress) : Type 0 where
  pub low : c.step ≤ 3
  pub small : length c.joined ≤ capacity mode c.step
  pub sent : c.outstanding ≡ true → (c.step < 3) × (ends c.cause ≡ false)

-- a call that takes an answer or none, before and after it
record Spends (mode : ℕ) (b : Bool) (c d : Progress) : Type 0 where
  counts : Countable mode d
  falls : (k : ℕ) → cond (b && eqb c.step k) 1 0 + budget mode k d ≤ budget mode k c

spends_none : (mode : ℕ) (c : Progress) → Countable mode c → Spends mode false c c
spends_none mode c h = record { counts = h; falls = λ k. omega arith }

-- a call on a reading: a refused one changes nothing
abbrev SpendsOn : Reading → Bool → Reading → Type 0
SpendsOn r taken q = Spends r.opening.mode taken r.progress q.progress

by_call : (x : Bool) (r q : Reading) (b : Bool) → Countable r.opening.mode r.progress → (b ≡ true → SpendsOn r x q) → SpendsOn r (x && b) (cond b q r)
by_call x r q b h f = by_and (SpendsOn r) x b q r (spends_none r.opening.mode r.progress h) f

-- ---- a command

sending_none : (r : Reading) (room : ℕ) → Countable r.opening.mode r.progress → command_refused r room ≡ 0 → Spends r.opening.mode false r.progress (sending r.progress)
unfolding command_refused
sending_none r room h e =
    let c = r.progress in
    let f = none_fit (command_conditions c.step c.cause c.outstanding room (length (next_command r))) refl e in
    let g : eqb c.step 3 || ends c.cause ≡ false = or_left (eqb c.step 3 || ends c.cause) c.outstanding f.0 in
    let other = eqb-false c.step 3 (or_left (eqb c.step 3) (ends c.cause) g) in
    let low = h.low in
    record {
      counts = record { low = h.low; small = h.small; sent = λ z. (omega arith, or_right (eqb c.step 3) (ends c.cause) g) };
      falls = λ k. omega arith;
    }

-- ---- an answer

asked_most : (mode : ℕ) (c : Progress) → Countable mode c → asked c ≤ capacity mode c.step + 1
asked_most mode c h = let l = h.small in either (λ (n : ℕ). n ≤ capacity mode c.step + 1) (is_response c.next) (omega arith) (omega arith)

one_most : (b : Bool) → cond b 1 0 ≤ 1
one_most b = either (λ (n : ℕ). n ≤ 1) b (omega arith) (omega arith)

-- an answer that is appended and after which more data is asked for: it is the first of its step, or it brings a byte
rule_brings : (second : ℕ) (command : NextCommand) (n total most : ℕ) → rule_cause (More second) command n total most ≡ 0
    → (cond (is_response command) (total + 1) 0 < total + n + 1) × (total + n ≤ most)
unfolding rule_cause
rule_brings second command n total most e =
    let f = none_fit ((status_cause, false) ∷ (empty_cause, eqb n 0 && is_response command) ∷ (full_cause, ltb most (total + n)) ∷ []) refl e in
    (go (eqb n 0) (is_response command) refl f.1.0, ltb-false most (total + n) f.1.1.0)
  where
    go : (x y : Bool) → eqb n 0 ≡ x → x && y ≡ false → cond y (total + 1) 0 < total + n + 1
    go x false p q = omega arith
    go true true p q = clash (sym q)
    go false true p q = let z = eqb-false n 0 p in omega arith

module _ (r : Reading) (h : Countable r.opening.mode r.progress) (below : r.progress.step < 3) (no_cause : ends r.progress.cause ≡ false) where
  -- what is asked for does not fall as the joined data grows
  asked_grows : (joined : List ℕ) → length r.progress.joined ≤ length joined → asked r.progress ≤ cond (is_response r.progress.next) (length joined + 1) 0
  asked_grows joined l = go (is_response r.progress.next)
    where
      go : (b : Bool) → cond b (length r.progress.joined + 1) 0 ≤ cond b (length joined + 1) 0
      go true = omega arith
      go false = omega arith

  stops : (joined : List ℕ) (k a b : ℕ) → length r.progress.joined ≤ length joined → length joined ≤ capacity r.opening.mode r.progress.step → cause_in_range k ≡ true
      → eqb k 0 ≡ false → Spends r.opening.mode true r.progress (stopped r.progress joined k a b)
  stops joined k a b l m p q =
      let counts : Countable r.opening.mode (stopped r.progress joined k a b) = record { low = h.low; small = m; sent = λ z. clash z } in
      let most = asked_most r.opening.mode (stopped r.progress joined k a b) counts in
      let one = one_most (is_sent_again r.progress.next) in
      let grows = asked_grows joined l in
      let e = arose_ends k p q in
      record {
        counts = counts;
        falls = λ n. left_falls r.opening.mode n _ _ _ _ (Onward.same refl (rw (no_cause, e) (omega (arith, grows))) (rw e (omega (arith, most, one))));
      }

  moves : (s : ℕ) → r.progress.step < s → s ≤ 3 → Spends r.opening.mode true r.progress (at_step s)
  moves s l m =
      let most = asked_most r.opening.mode r.progress h in
      let one = one_most (is_sent_again r.progress.next) in
      record {
        counts = record { low = m; small = omega arith; sent = λ z. clash z };
        falls = λ n. left_falls r.opening.mode n _ _ _ _ (Onward.later l (rw no_cause (omega arith)));
      }

  -- after 61
  continues : (joined : List ℕ) (second : ℕ) → asked r.progress < length joined + 1 → length joined ≤ capacity r.opening.mode r.progress.step
      → Spends r.opening.mode true r.progress (continued r.progress joined (NextCommand.get_response second))
  continues joined second l m =
      let one = one_most (is_sent_again r.progress.next) in
      record {
        counts = record { low = h.low; small = m; sent = λ z. clash z };
        falls = λ n. left_falls r.opening.mode n _ _ _ _ (Onward.same refl (rw no_cause (omega (arith, one))) (omega arith));
      }

  -- after 6C
  repeats : (joined : List ℕ) (last : ℕ) → is_sent_again r.progress.next ≡ false → length r.progress.joined ≤ length joined
      → length joined ≤ capacity r.opening.mode r.progress.step
      → Spends r.opening.mode true r.progress (continued r.progress joined (NextCommand.again r.progress.next last))
  repeats joined last e l m =
      let after = continued r.progress joined (NextCommand.again r.progress.next last) in
      let counts : Countable r.opening.mode after = record { low = h.low; small = m; sent = λ z. clash z } in
      let most = asked_most r.opening.mode after counts in
      let grows = asked_grows joined l in
      record {
        counts = counts;
        falls = λ n. left_falls r.opening.mode n _ _ _ _ (Onward.same refl (rw (no_cause, e) (omega (arith, grows))) (omega (arith, most)));
      }

  ends_well : (joined cancelled : List ℕ) → Spends r.opening.mode true r.progress (good_end r joined cancelled).progress
  unfolding good_end
  ends_well joined cancelled =
      by_case (SpendsOn r true) _ _ (eqb r.progress.step 0) (λ e. moves 1 (let z = eqb-true r.progress.step 0 e in omega arith) (omega arith))
      (λ _. by_case (SpendsOn r true) _ _ (eqb r.progress.step 1)
      (λ e. let z = eqb-true r.progress.step 1 e in let t = either (λ (n : ℕ). (1 < n) × (n ≤ 3)) (has_step2 r.opening.mode) {x = 2} {y = 3} (omega arith, omega arith) (omega arith, omega arith) in moves _ (rw z t.0) t.1)
      (λ _. moves 3 below (omega arith)))

  judges : (joined cancelled : List ℕ) → length r.progress.joined ≤ length joined → length joined ≤ capacity r.opening.mode r.progress.step
      → Spends r.opening.mode true r.progress (judged r joined cancelled).progress
  unfolding judged
  judges joined cancelled l m =
      let k = joined_cause r.opening.mode r.progress.step joined in
      by_case (SpendsOn r true) _ _ (eqb k 0) (λ _. ends_well joined cancelled) (λ e. stops joined k 0 0 l m (joined_in_range r.opening.mode r.progress.step joined) e)

  joins : (status : Status) (bytes cancelled : List ℕ) → cause_by r.progress (capacity r.opening.mode r.progress.step) status bytes ≡ 0
      → Spends r.opening.mode true r.progress (judged r (r.progress.joined ++ bytes) cancelled).progress
  joins status bytes cancelled e =
      let n = length-append r.progress.joined bytes in
      let f = rule_fits status r.progress.next (length bytes) (length r.progress.joined) (capacity r.opening.mode r.progress.step) e in
      judges (r.progress.joined ++ bytes) cancelled (omega (arith, n)) (omega (arith, n, f))

  appends : (status : Status) (bytes cancelled : List ℕ) → cause_by r.progress (capacity r.opening.mode r.progress.step) status bytes ≡ 0
      → Spends r.opening.mode true r.progress (appended status r (r.progress.joined ++ bytes) cancelled).progress
  appends (More second) bytes cancelled e =
      let f = rule_brings second r.progress.next (length bytes) (length r.progress.joined) (capacity r.opening.mode r.progress.step) e in
      continues _ second (rw length-append f.0) (rw length-append f.1)
  appends (Again last) bytes cancelled e =
      let n = length-append r.progress.joined bytes in
      let once = rule_again last r.progress.next (length bytes) (length r.progress.joined) (capacity r.opening.mode r.progress.step) e in
      let f = rule_fits (Again last) r.progress.next (length bytes) (length r.progress.joined) (capacity r.opening.mode r.progress.step) e in
      repeats _ last once.0 (omega (arith, n)) (omega (arith, n, f))
  appends Done bytes cancelled e = joins Done bytes cancelled e
  appends Other bytes cancelled e = joins Other bytes cancelled e

  answers_one : (bytes status cancelled : List ℕ) → Spends r.opening.mode true r.progress (answer_taken r bytes status cancelled).progress
  unfolding answer_taken
  answers_one bytes status cancelled =
      let k = cause_by r.progress (capacity r.opening.mode r.progress.step) (status_of status) bytes in
      by_case (SpendsOn r true) _ _ (eqb k 0) (λ e. appends (status_of status) bytes cancelled (eqb-true k 0 e))
      (λ e. stops r.progress.joined k _ _ (omega arith) h.small (rule_in_range (status_of status) r.progress.next (length bytes) (length r.progress.joined) (capacity r.opening.mode r.progress.step)) e)

-- an answer is taken only where a command is outstanding
pub taken_sent : (r : Reading) (size n : ℕ) → answer_refused r size n ≡ 0 → r.progress.outstanding ≡ true
unfolding answer_refused
taken_sent r size n e = not-false r.progress.outstanding (none_fit (answer_conditions r.figures r.progress.outstanding size n) refl e).0

-- ---- every call, and every list of calls

spends : (r : Reading) (t : Arguments) → Countable r.opening.mode r.progress → Spends r.opening.mode (takes r t) r.progress (read r t).progress
unfolding read
spends r (Arguments.command room) h =
    by_call false r _ (eqb (command_refused r room) 0) h (λ e. sending_none r room h (eqb-true (command_refused r room) 0 e))
spends r (Arguments.answer size bytes cancelled) h =
    let k = answer_refused r size (length bytes) in
    by_call true r _ (eqb k 0) h
    (λ e. let s = h.sent (taken_sent r size (length bytes) (eqb-true k 0 e)) in answers_one r h s.0 s.1 (data_of bytes) (status_bytes bytes) cancelled)
spends r (Arguments.verdict kind yes_no fascn) h =
    by_call false r (verdict_taken r kind yes_no fascn) (eqb (verdict_refused r kind yes_no fascn) 0) h (λ e. spends_none r.opening.mode r.progress h)
spends r (Arguments.field size tag) h = by_call false r r (eqb (refused_by r (Arguments.field size tag)) 0) h (λ e. spends_none r.opening.mode r.progress h)
spends r (Arguments.stamp room) h = by_call false r r (eqb (refused_by r (Arguments.stamp room)) 0) h (λ e. spends_none r.opening.mode r.progress h)
spends r (Arguments.preview kind yes_no fascn room) h = by_call false r r (eqb (refused_by r (Arguments.preview kind yes_no fascn room)) 0) h (λ e. spends_none r.opening.mode r.progress h)

-- no call changes the mode
abbrev Stays : Reading → Reading → Type 0
Stays r q = q.opening.mode ≡ r.opening.mode

judged_stays : (r : Reading) (joined cancelled : List ℕ) → Stays r (judged r joined cancelled)
unfolding judged good_end
judged_stays r joined cancelled =
    either (Stays r) (eqb (joined_cause r.opening.mode r.progress.step joined) 0)
    (either (Stays r) (eqb r.progress.step 0) refl (either (Stays r) (eqb r.progress.step 1) {x = step1_end r joined cancelled} {y = step2_end r joined} refl refl)) refl

appended_stays : (status : Status) (r : Reading) (joined cancelled : List ℕ) → Stays r (appended status r joined cancelled)
appended_stays (More second) r joined cancelled = refl
appended_stays (Again last) r joined cancelled = refl
appended_stays Done r joined cancelled = judged_stays r joined cancelled
appended_stays Other r joined cancelled = judged_stays r joined cancelled

answer_stays : (r : Reading) (bytes status cancelled : List ℕ) → Stays r (answer_taken r bytes status cancelled)
unfolding answer_taken
answer_stays r bytes status cancelled =
    let k = cause_by r.progress (capacity r.opening.mode r.progress.step) (status_of status) bytes in
    either (Stays r) (eqb k 0) (appended_stays (status_of status) r (r.progress.joined ++ bytes) cancelled) refl

mode_stays : (r : Reading) (t : Arguments) → Stays r (read r t)
unfolding read
mode_stays r (Arguments.command room) = either (Stays r) (eqb (command_refused r room) 0) refl refl
mode_stays r (Arguments.answer size bytes cancelled) =
    either (Stays r) (eqb (answer_refused r size (length bytes)) 0) (answer_stays r (data_of bytes) (status_bytes bytes) cancelled) refl
mode_stays r (Arguments.verdict kind yes_no fascn) = either (Stays r) (eqb (verdict_refused r kind yes_no fascn) 0) {x = verdict_taken r kind yes_no fascn} refl refl
mode_stays r (Arguments.field size tag) = refl
mode_stays r (Arguments.stamp room) = either (Stays r) (eqb (refused_by r (Arguments.stamp room)) 0) refl refl
mode_stays r (Arguments.preview kind yes_no fascn room) = either (Stays r) (eqb (refused_by r (Arguments.preview kind yes_no fascn room)) 0) refl refl

countable_on : (r : Reading) (t : Arguments) → Countable r.opening.mode (read r t).progress → Countable (read r t).opening.mode (read r t).progress
countable_on r t c = subst (λ (n : ℕ). Countable n (read r t).progress) (sym (mode_stays r t)) c

count : (k : ℕ) (ts : List Arguments) (r : Reading) → Countable r.opening.mode r.progress → answers_in k r ts ≤ budget r.opening.mode k r.progress
count k [] r h = omega arith
count k (t ∷ ts) r h =
    let s = spends r t h in
    let here = s.falls k in
    let there : answers_in k (read r t) ts ≤ budget r.opening.mode k (read r t).progress =
    subst (λ (n : ℕ). answers_in k (read r t) ts ≤ budget n k (read r t).progress) (mode_stays r t) (count k ts (read r t) (countable_on r t s.counts)) in
    omega (arith, here, there)

-- a taken answer is in step 0, 1 or 2
takes_below : (r : Reading) (t : Arguments) → Countable r.opening.mode r.progress → takes r t ≡ true → r.progress.step < 3
takes_below r (Arguments.command room) h e = clash e
takes_below r (Arguments.answer size bytes cancelled) h e =
    (h.sent (taken_sent r size (length bytes) (eqb-true (answer_refused r size (length bytes)) 0 e))).0
takes_below r (Arguments.verdict kind yes_no fascn) h e = clash e
takes_below r (Arguments.field size tag) h e = clash e
takes_below r (Arguments.stamp room) h e = clash e
takes_below r (Arguments.preview kind yes_no fascn room) h e = clash e

one_of_three : (b : Bool) (s : ℕ) → (b ≡ true → s < 3) → cond b 1 0 ≤ cond (b && eqb s 0) 1 0 + cond (b && eqb s 1) 1 0 + cond (b && eqb s 2) 1 0
one_of_three false s f = omega arith
one_of_three true zero f = omega arith
one_of_three true (suc zero) f = omega arith
one_of_three true (suc (suc zero)) f = omega arith
one_of_three true (suc (suc (suc s))) f = absurd (let l = f refl in omega arith)

by_steps : (ts : List Arguments) (r : Reading) → Countable r.opening.mode r.progress → answers r ts ≤ answers_in 0 r ts + answers_in 1 r ts + answers_in 2 r ts
by_steps [] r h = omega arith
by_steps (t ∷ ts) r h =
    let here = one_of_three (takes r t) r.progress.step (takes_below r t h) in
    let there = by_steps ts (read r t) (countable_on r t (spends r t h).counts) in
    omega (arith, here, there)

begins_countable : (f : Figures) (o : Opening) → Countable o.mode (begins f o).progress
begins_countable f o = record { low = omega arith; small = omega arith; sent = λ z. clash z }

list_countable : (ts : List Arguments) (r : Reading) → Countable r.opening.mode r.progress → let q = reading r ts in Countable q.opening.mode q.progress
list_countable [] r h = h
list_countable (t ∷ ts) r h = list_countable ts (read r t) (countable_on r t (spends r t h).counts)

-- what the count asks holds after every list of calls
pub countable_all : (f : Figures) (o : Opening) (ts : List Arguments) → let r = reading (begins f o) ts in Countable r.opening.mode r.progress
countable_all f o ts = list_countable ts (begins f o) (begins_countable f o)

pub answers_step : (step : ℕ) (f : Figures) (o : Opening) (ts : List Arguments) → answers_in step (begins f o) ts ≤ answers_most o.mode step
answers_step step f o ts =
    let most = count step ts (begins f o) (begins_countable f o) in
    let all = left_most o.mode step 0 0 in
    omega (arith, most, all)

pub answers-all : (f : Figures) (o : Opening) (ts : List Arguments) → let most = answers_most o.mode in answers (begins f o) ts ≤ most 0 + most 1 + most 2
answers-all f o ts =
    let sum = by_steps ts (begins f o) (begins_countable f o) in
    let a = answers_step 0 f o ts in
    let b = answers_step 1 f o ts in
    let c = answers_step 2 f o ts in
    omega (arith, sum, a, b, c)
