-- The answer call: the session that takes an answer stands for the reading that takes it, by the first rule that fits, and the object buffer has the joined data.
-- Assumes nothing.
use mathlib.Core.Path.{◌≡◌, refl, sym, ap, subst, ◌∙◌}
use mathlib.Core.Bool.{Bool, true, false, cond, not, ◌&&◌, ◌||◌}
use mathlib.Core.List.{List, ◌++◌}
use Prim.Native.Nat.{ℕ, ◌+◌, ◌≤◌, ◌<◌}
use native.Mathlib.Omega.{arith}
use borrow.Author.Tests.{eqb-true, not-false, leb-true}
use lib.Dec.{eqb, leb}
use lib.ListN.{length, get_or, take, drop, length-append}
use Rattle.common.proofs.ListsLaws.{length_over}
use Rattle.common.specs.Lists.{over_places}
use Rattle.card.specs.Command.{status_of}
use Rattle.card.specs.declared.command.Status.{Status}
use Rattle.card.specs.declared.command.Status.TheVariants.{Done, More, Again, Other}
use Rattle.session.specs.Tables.{Figures, status_cause, base_of, capacity, object_size, NextCommand, joined_cause, status_shown}
use Rattle.session.specs.Condition.{answer_conditions}
use Rattle.session.specs.Reading.{Found, Reading, with_progress, answer_refused, stopped, continued, judged, appended, cause_by, answer_taken}
use Rattle.session.specs.Ranges.{cause_in_range}
use Rattle.session.specs.Operation.{with_session_progress, progress_stopped, progress_continued, joined_in, judged_session, appended_session, answer_taken_session, answer_taken_buffer, answer_refusal}
use Rattle.session.specs.Promise.{Bytes}
use Rattle.common.proofs.TestLaws.{clash, and_left, and_right, by_test}
use Rattle.common.proofs.ConditionLaws.{none_fit}
use Rattle.session.proofs.RuleLaws.{rule_in_range, rule_fits, joined_in_range}
use Rattle.session.proofs.BytesLaws.{append_bytes}
use Rattle.session.proofs.Invariant.{next_of_lem, next_cause, session_of, progress_of, Held, GoodOne, OneHeld, TwoHeld, Stage, Invariant, StandsFor}
use Rattle.session.proofs.InRangeLaws.{in_range_lem}
use Rattle.session.proofs.FigureLaws.{base_fits, steps_apart}
use Rattle.session.proofs.BufferLaws.{holds_more, before_stays}
use Rattle.session.proofs.GoodEndLaws.{Leaves, good_end_lem}
use Rattle.session.specs.declared.state.Session.{Session}

-- ---- a cause ends the reading

shown_once : (b : Bool) (x : ℕ) → cond b (cond b x 0) 0 ≡ cond b x 0
shown_once true x = refl
shown_once false x = refl

shown_none : (b : Bool) → cond {A = ℕ} b 0 0 ≡ 0
shown_none true = refl
shown_none false = refl

stops : (r : Reading) (m m' xs : List ℕ) (k sw1 sw2 : ℕ) → Invariant r m → Leaves r m' → r.progress.step < 3
    → length xs ≤ capacity r.opening.mode r.progress.step → Bytes xs → take (length xs) (drop (base_of r.progress.step) m') ≡ xs → cause_in_range k ≡ true
    → status_shown k sw1 ≡ sw1 → status_shown k sw2 ≡ sw2
    → StandsFor (with_session_progress (session_of r) (progress_stopped (progress_of r.progress) (length xs) k sw1 sw2)) m' (with_progress r (stopped r.progress xs k sw1 sw2))
stops r m m' xs k sw1 sw2 i l lt small b held c p q =
    record {
      object = m';
      same = refl;
      holds = record {
        figures = i.figures;
        opening = i.opening;
        progress_good = record { step = i.progress_good.step; filled = small; cause = c; outstanding = refl; no_cause = λ e. absurd (omega arith); shown1 = p; shown2 = q; bytes = b };
        held = held;
        one = l.one;
        two = l.two;
        stage = i.stage;
        judged = i.judged;
      };
    }

-- ---- the joined data is judged

judges : (r : Reading) (m m' : List ℕ) (xs cancelled : List ℕ) → Invariant r m → Leaves r m' → r.progress.step < 3 → length xs ≤ capacity r.opening.mode r.progress.step → Bytes xs
    → take (length xs) (drop (base_of r.progress.step) m') ≡ xs
    → StandsFor (judged_session (session_of r) xs cancelled) m' (judged r xs cancelled)
unfolding judged_session judged
judges r m m' xs cancelled i l lt small b held =
    let k = joined_cause r.opening.mode r.progress.step xs in
    by_test (λ (s : Session) (q : Reading). StandsFor s m' q) _ _ _ _ (eqb (joined_cause r.opening.mode r.progress.step xs) 0)
    (λ e. good_end_lem r m m' xs cancelled i l lt small b held (eqb-true _ 0 e))
    (λ e. stops r m m' xs k 0 0 i l lt small b held (joined_in_range r.opening.mode r.progress.step xs) (shown_none (eqb k status_cause)) (shown_none (eqb k status_cause)))

-- ---- what an answer that is taken leaves in the buffer

-- what was found before a step is read stays as it is
keep_one : (mode step at : ℕ) (f : Found) (m xs : List ℕ) → Stage step f → step < 3 → base_of step + at + length xs ≤ length m → OneHeld mode f.step1 m
    → OneHeld mode f.step1 (over_places m (base_of step + at) xs)
keep_one mode step at f m xs (Stage.early l n) lt room old = subst (λ (x : Found). OneHeld mode x.step1 (over_places m (base_of step + at) xs)) (sym n) tt
keep_one mode step at f m xs (Stage.between e one n) lt room old =
    let was : GoodOne mode one × Held mode 1 one.joined m = subst (λ (x : Found). OneHeld mode x.step1 m) n old in
    let k = was.1 in
    let b : base_of step ≡ base_of 2 = ap base_of e in
    let apart = steps_apart mode in
    let small = k.small in
    subst (λ (x : Found). OneHeld mode x.step1 (over_places m (base_of step + at) xs)) (sym n)
    (was.0, record { whole = length_over m xs (base_of step + at) room ∙ k.whole; small = small; held = before_stays m xs (base_of 1) (length one.joined) (base_of step + at) (omega (arith, apart, small, b)) room ∙ k.held })
keep_one mode step at f m xs (Stage.late e one n) lt room old = absurd (omega arith)

keep_two : (mode step : ℕ) (f : Found) (m : List ℕ) → Stage step f → step < 3 → TwoHeld mode f.step2 m
keep_two mode step f m (Stage.early l n) lt = subst (λ (x : Found). TwoHeld mode x.step2 m) (sym n) tt
keep_two mode step f m (Stage.between e one n) lt = subst (λ (x : Found). TwoHeld mode x.step2 m) (sym n) tt
keep_two mode step f m (Stage.late e one n) lt = absurd (omega arith)

leaves_same : (r : Reading) (m : List ℕ) → Invariant r m → length m ≡ object_size → Leaves r m
leaves_same r m i e = record { size = e; one = i.one; two = i.two }

-- ---- rule 4

module _ (r : Reading) (m xs : List ℕ) (i : Invariant r m) (size : length m ≡ object_size) (lt : r.progress.step < 3) (fits : length r.progress.joined + length xs ≤ capacity r.opening.mode r.progress.step) (bytes : Bytes xs) where
  abbrev base : ℕ
  base = base_of r.progress.step

  abbrev old : List ℕ
  old = r.progress.joined

  room : base + length old + length xs ≤ length m
  room = let low = base_fits r.opening.mode r.progress.step in omega (arith, low)

  leaves_more : Leaves r (over_places m (base + length old) xs)
  leaves_more =
      record { size = length_over m xs (base + length old) room ∙ size; one = keep_one r.opening.mode r.progress.step (length old) r.found m xs i.stage lt room i.one; two = keep_two r.opening.mode r.progress.step r.found (over_places m (base + length old) xs) i.stage lt }

  new_held : take (length (old ++ xs)) (drop base (over_places m (base + length old) xs)) ≡ old ++ xs
  new_held = rw length-append (holds_more m old xs base room i.held)

  -- after 61, and after 6C
  continues : (next : NextCommand) → StandsFor (with_session_progress (session_of r) (progress_continued (progress_of r.progress) (length xs) (next_of_lem next))) (over_places m (base + length old) xs) (with_progress r (continued r.progress (old ++ xs) next))
  continues next =
      record {
        object = over_places m (base + length old) xs;
        same = rw length-append;
        holds = record {
          figures = i.figures;
          opening = i.opening;
          progress_good = record { step = i.progress_good.step; filled = rw length-append fits; cause = refl; outstanding = refl; no_cause = λ e. refl; shown1 = refl; shown2 = refl; bytes = append_bytes old xs i.progress_good.bytes bytes };
          held = new_held;
          one = leaves_more.one;
          two = leaves_more.two;
          stage = i.stage;
          judged = i.judged;
        };
      }

  -- after 90 00
  joins : (cancelled : List ℕ) → StandsFor (judged_session (session_of r) (joined_in (progress_of r.progress) (over_places m (base + length old) xs) (length xs)) cancelled) (over_places m (base + length old) xs) (judged r (old ++ xs) cancelled)
  unfolding joined_in
  joins cancelled =
      rw (holds_more m old xs base room i.held)
      (judges r m (over_places m (base + length old) xs) (old ++ xs) cancelled i leaves_more lt (rw length-append fits) (append_bytes old xs i.progress_good.bytes bytes) new_held)

  appends : (st : Status) (cancelled : List ℕ)
      → StandsFor (appended_session st (session_of r) (joined_in (progress_of r.progress) (over_places m (base + length old) xs) (length xs)) (length xs) cancelled) (over_places m (base + length old) xs) (appended st r (old ++ xs) cancelled)
  appends (More second) cancelled = continues (NextCommand.get_response second)
  appends (Again last) cancelled = continues (NextCommand.again r.progress.next last)
  appends Done cancelled = joins cancelled
  appends Other cancelled = joins cancelled

-- ---- every answer that is accepted

both : (s₁ s₂ : Session) (m₁ m₂ : List ℕ) (r₁ r₂ : Reading) (b : Bool) → (b ≡ true → StandsFor s₁ m₁ r₁) → (b ≡ false → StandsFor s₂ m₂ r₂)
    → StandsFor (cond b s₁ s₂) (cond b m₁ m₂) (cond b r₁ r₂)
both s₁ s₂ m₁ m₂ r₁ r₂ true f g = f refl
both s₁ s₂ m₁ m₂ r₁ r₂ false f g = g refl

pub takes_answer : (r : Reading) (m xs status cancelled : List ℕ) → Invariant r m → length m ≡ object_size → r.progress.step < 3 → Bytes xs
    → StandsFor (answer_taken_session (session_of r) m xs status cancelled) (answer_taken_buffer (session_of r) m xs status) (answer_taken r xs status cancelled)
unfolding answer_taken_session answer_taken_buffer answer_taken
takes_answer r m xs status cancelled i size lt b =
    let st = status_of status in
    let most = capacity r.opening.mode r.progress.step in
    let k = cause_by r.progress most st xs in
    rw next_cause
    (both _ _ _ _ _ _ (eqb k 0)
    (λ e. appends r m xs i size lt (rule_fits st r.progress.next (length xs) (length r.progress.joined) most (eqb-true k 0 e)) b st cancelled)
    (λ e. stops r m m r.progress.joined k _ _ i (leaves_same r m i size) lt i.progress_good.filled i.progress_good.bytes i.held (rule_in_range st r.progress.next (length xs) (length r.progress.joined) most) (shown_once (eqb k status_cause) (get_or status 0 0)) (shown_once (eqb k status_cause) (get_or status 1 0))))

-- ---- the call

pub answer_number : (r : Reading) (m : List ℕ) (size n : ℕ) → Invariant r m → answer_refusal (session_of r) size n ≡ answer_refused r size n
unfolding answer_refusal answer_refused
answer_number r m size n i = rw (in_range_lem r m i, i.figures)

-- what is known where it is accepted
pub record Accepts (r : Reading) (size : ℕ) : Type 0 where
  pub whole : size ≡ object_size
  pub below : r.progress.step < 3
  pub causeless : r.progress.cause ≡ 0

pub answer_accepts : (r : Reading) (m : List ℕ) (size n : ℕ) → Invariant r m → answer_refused r size n ≡ 0 → Accepts r size
unfolding answer_refused
answer_accepts r m size n i e =
    let c = none_fit (answer_conditions r.figures r.progress.outstanding size n) refl e in
    let out = open_steps r.progress.outstanding (leb r.progress.step 2 && eqb r.progress.cause 0) (not-false _ c.0) i.progress_good.outstanding in
    let low : r.progress.step ≤ 2 = leb-true _ 2 (and_left (leb r.progress.step 2) _ out) in
    record { whole = eqb-true size r.figures.object_size (not-false _ c.1.0) ∙ ap (λ (f : Figures). f.object_size) i.figures; below = omega arith; causeless = eqb-true _ 0 (and_right (leb r.progress.step 2) _ out) }
  where
    open_steps : (a b : Bool) → a ≡ true → not a || b ≡ true → b ≡ true
    open_steps true b p q = q
    open_steps false b p q = clash p
