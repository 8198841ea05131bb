-- The good end of a step: the next step begins, and what the step gave is kept.
-- Assumes nothing.
use mathlib.Core.Path.{◌≡◌, refl, sym, ap, subst, ◌∙◌}
use mathlib.Core.Bool.{Bool, true, false, cond, not}
use mathlib.Core.Option.{Option}
use mathlib.Core.List.{List, [], ◌∷◌}
use Prim.Native.Nat.{ℕ, ◌≤◌, ◌<◌}
use native.Mathlib.Omega.{arith}
use borrow.Author.Tests.{eqb-true, eqb-false, not-false}
use lib.Dec.{eqb}
use lib.ListN.{length, get_or, set, take, drop, length-set}
use lib.Seq.{get_or-set_same, get_or-set_other}
use Rattle.card.specs.Object.{malformed_object, expiry_tag, biometric_tag, object_of, field_part, field_value}
use Rattle.card.specs.Fascn.{unpack_of}
use Rattle.card.specs.Date.{ill_formed_date, date_of}
use Rattle.session.specs.Tables.{checks, fascn_cause, check_served, outcome_of, expiry_outcome, list_outcome, judged_outcomes, has_step2, kind_at, step_after, base_of, capacity, object_size, fascn_read, key_read, expiry_read, object_cause, joined_cause}
use Rattle.session.specs.Reading.{Opening, StepOne, Verdict, Found, Reading, with_progress, at_step, step1_end, step2_end, good_end, own_fascn}
use Rattle.session.specs.Finding.{verdict_on}
use Rattle.session.specs.Ranges.{step_in_range}
use Rattle.session.specs.Promise.{Host, Bytes}
use Rattle.session.specs.Operation.{good_end_session, step2_end_session}
use Rattle.session.specs.declared.state.Session.{Session}
use Rattle.common.proofs.TestLaws.{clash, by_test, either}
use Rattle.common.proofs.ConditionLaws.{none_fit}
use Rattle.session.proofs.OutcomeLaws.{place_of, placed, set-in_range, expiry_small, list_small}
use Rattle.session.proofs.Invariant.{session_of, Held, GoodOne, OneHeld, TwoHeld, Stage, VerdictGave, Judged, GoodProgress, Invariant, StandsFor}

-- a buffer that has all that a reading needs of it
pub record Leaves (r : Reading) (m : List ℕ) : Type 0 where
  pub size : length m ≡ object_size
  pub one : OneHeld r.opening.mode r.found.step1 m
  pub two : TwoHeld r.opening.mode r.found.step2 m

-- a step that begins: no data, no cause, no command outstanding
begun_progress : (mode step : ℕ) → step_in_range mode step ≡ true → GoodProgress mode (at_step step)
begun_progress mode step e = record { step = e; filled = omega arith; cause = refl; outstanding = refl; no_cause = λ z. refl; shown1 = refl; shown2 = refl; bytes = λ i. omega arith }

-- ---- step 0

template_end : (r : Reading) (m m' : List ℕ) → Invariant r m → Leaves r m' → r.progress.step ≡ 0 → Invariant (with_progress r (at_step 1)) m'
template_end r m m' i l e =
    record { figures = i.figures; opening = i.opening; progress_good = begun_progress r.opening.mode 1 refl; held = refl; one = l.one; two = l.two; stage = up r.found (subst (λ (s : ℕ). Stage s r.found) e i.stage); judged = i.judged }
  where
    up : (f : Found) → Stage 0 f → Stage 1 f
    up f (Stage.early l e) = Stage.early (omega arith) e
    up f (Stage.between h x e) = absurd (omega arith)
    up f (Stage.late h x e) = absurd (omega arith)

-- ---- step 1

-- what its conditions give
one_good : (mode : ℕ) (xs cancelled : List ℕ) → Bytes xs → joined_cause mode 1 xs ≡ 0 → GoodOne mode (record { joined = xs; cancelled = cancelled })
unfolding joined_cause object_cause
one_good mode xs cancelled b e =
    let u = (unpack_of (fascn_read mode xs)).0 in
    let d = (date_of (field_value (kind_at mode 1) expiry_tag xs)).0 in
    let c = none_fit ((malformed_object, not (eqb (object_of (kind_at mode 1) xs).0 0)) ∷ (fascn_cause, not (eqb u 0)) ∷ (ill_formed_date, not (eqb d 0)) ∷ []) refl e in
    record { object = eqb-true _ 0 (not-false _ c.0); fascn = eqb-true u 0 (not-false _ c.1.0); date = eqb-true d 0 (not-false _ c.1.1.0); bytes = b }

-- what no verdict gave waits on, whatever FASC-N is then read
waits_on : (kind : ℕ) (needed : Bool) (own own' : List ℕ) (v : Option Verdict) (o o' : ℕ) → v ≡ Option.none → o' ≡ o → VerdictGave kind needed own v o → VerdictGave kind needed own' v o'
waits_on kind needed own own' v o o' n e (VerdictGave.awaiting p q) = VerdictGave.awaiting p (e ∙ q)
waits_on kind needed own own' v o o' n e (VerdictGave.taken yes_no f p q h z) = clash (sym (ap is n) ∙ ap is p)
  where
    is : Option Verdict → Bool
    is Option.none = false
    is (Option.some x) = true

-- the two outcomes that step 1's good end sets
module _ (o : List ℕ) (a b : ℕ) (counted : length o ≡ checks) where
  set_other : (i : ℕ) → (i ≡ 2 → ⊥) → (i ≡ 3 → ⊥) → get_or (set (set o 2 a) 3 b) i 0 ≡ get_or o i 0
  set_other i h k = get_or-set_other (set o 2 a) 3 i b 0 k ∙ get_or-set_other o 2 i a 0 h

  set_three : get_or (set (set o 2 a) 3 b) 2 0 ≡ a
  set_three = get_or-set_other (set o 2 a) 3 2 b 0 (λ e. omega arith) ∙ get_or-set_same o 2 a 0 (omega arith)

  set_four : get_or (set (set o 2 a) 3 b) 3 0 ≡ b
  set_four = get_or-set_same (set o 2 a) 3 b 0 (omega (arith, length-set o 2 a))

abbrev nothing : Found
nothing = record { step1 = Option.none; step2 = Option.none; verdicts = [] }

one_judged : (o : Opening) (old : List ℕ) (f : Found) (xs cancelled : List ℕ) → f ≡ nothing → Judged o old f
    → Judged o (judged_outcomes o.mode o.date old xs cancelled) (record { step1 = Option.some (record { joined = xs; cancelled = cancelled }); step2 = f.step2; verdicts = f.verdicts })
unfolding verdict_on
one_judged o old f xs cancelled n j =
    let a = expiry_outcome o.date (expiry_read o.mode xs) in
    let b = list_outcome (key_read o.mode xs) cancelled in
    let counted : length (set old 2 a) ≡ checks = length-set old 2 a ∙ j.counted in
    record {
      counted = length-set (set old 2 a) 3 b ∙ counted;
      small = set-in_range (set old 2 a) 3 b (list_small (key_read o.mode xs) cancelled) (set-in_range old 2 a (expiry_small o.date (expiry_read o.mode xs)) j.small);
      verdicts = λ kind g. waits_on kind _ (own_fascn o.mode f.step1) _ (verdict_on kind f.verdicts) (outcome_of old (check_served kind)) _ (ap (λ (x : Found). verdict_on kind x.verdicts) n) (set_other old a b j.counted (place_of kind) (λ z. (placed kind g).not_expiry (sym z)) (λ z. (placed kind g).not_list (sym z))) (j.verdicts kind g);
      expiry = set_three old a b j.counted;
      list = set_four old a b j.counted;
    }

-- where nothing was found yet
early_found : (step : ℕ) (f : Found) → step ≡ 1 → Stage step f → f ≡ nothing
early_found step f e (Stage.early l n) = n
early_found step f e (Stage.between h x n) = absurd (omega arith)
early_found step f e (Stage.late h x n) = absurd (omega arith)

after_one : (mode : ℕ) → step_in_range mode (step_after mode 1) ≡ true
after_one mode = go (has_step2 mode) refl
  where
    go : (b : Bool) → has_step2 mode ≡ b → step_in_range mode (cond b 2 3) ≡ true
    go true e = e
    go false e = refl

one_stage : (mode : ℕ) (one : StepOne) → Stage (step_after mode 1) (record { step1 = Option.some one; step2 = Option.none; verdicts = [] })
one_stage mode one =
    either (λ (n : ℕ). Stage n (record { step1 = Option.some one; step2 = Option.none; verdicts = [] })) (has_step2 mode) (Stage.between refl one refl) (Stage.late refl one refl)

one_end : (r : Reading) (m m' xs cancelled : List ℕ) → Invariant r m → Leaves r m' → r.progress.step ≡ 1 → Bytes xs → Held r.opening.mode 1 xs m' → joined_cause r.opening.mode 1 xs ≡ 0
    → Invariant (step1_end r xs cancelled) m'
one_end r m m' xs cancelled i l e b k good =
    let mode = r.opening.mode in
    let one : StepOne = record { joined = xs; cancelled = cancelled } in
    let n = early_found r.progress.step r.found e i.stage in
    record {
      figures = i.figures;
      opening = i.opening;
      progress_good = begun_progress mode (step_after mode 1) (after_one mode);
      held = refl;
      one = (one_good mode xs cancelled b good, k);
      two = l.two;
      stage = subst (λ (f : Found). Stage (step_after mode 1) (record { step1 = Option.some one; step2 = f.step2; verdicts = f.verdicts })) (sym n) (one_stage mode one);
      judged = one_judged r.opening r.outcomes r.found xs cancelled n i.judged;
    }

-- ---- step 2

two_end : (r : Reading) (m m' xs : List ℕ) → Invariant r m → Leaves r m' → r.progress.step ≡ 2 → Held r.opening.mode 2 xs m'
    → Invariant (step2_end r xs) m'
two_end r m m' xs i l e k =
    record { figures = i.figures; opening = i.opening; progress_good = begun_progress r.opening.mode 3 refl; held = refl; one = l.one; two = (has_two r.progress.step e i.progress_good.step, k); stage = up r.progress.step r.found e i.stage; judged = record { counted = i.judged.counted; small = i.judged.small; verdicts = i.judged.verdicts; expiry = i.judged.expiry; list = i.judged.list } }
  where
    has_two : (step : ℕ) → step ≡ 2 → step_in_range r.opening.mode step ≡ true → has_step2 r.opening.mode ≡ true
    has_two step z h = rw z at h

    up : (step : ℕ) (f : Found) → step ≡ 2 → Stage step f → Stage 3 (record { step1 = f.step1; step2 = Option.some xs; verdicts = f.verdicts })
    up step f z (Stage.early h n) = absurd (omega arith)
    up step f z (Stage.between h one n) = Stage.late refl one (ap (λ (y : Found). y.step1) n)
    up step f z (Stage.late h one n) = absurd (omega arith)

-- ---- any step

pub good_end_lem : (r : Reading) (m m' xs cancelled : List ℕ) → Invariant r m → Leaves r m' → r.progress.step < 3 → length xs ≤ capacity r.opening.mode r.progress.step → Bytes xs
    → take (length xs) (drop (base_of r.progress.step) m') ≡ xs → joined_cause r.opening.mode r.progress.step xs ≡ 0
    → StandsFor (good_end_session (session_of r) xs cancelled) m' (good_end r xs cancelled)
unfolding good_end_session good_end
good_end_lem r m m' xs cancelled i l lt small b held good =
    let step = r.progress.step in
    by_test (λ (s : Session) (q : Reading). StandsFor s m' q) _ _ _ _ (eqb step 0)
    (λ e. record { object = m'; same = refl; holds = template_end r m m' i l (eqb-true step 0 e) })
    (λ e0. by_test (λ (s : Session) (q : Reading). StandsFor s m' q) _ _ _ _ (eqb step 1)
    (λ e. let e1 = eqb-true step 1 e in record { object = m'; same = refl; holds = one_end r m m' xs cancelled i l e1 b (held_at step 1 e1 small held) (subst (λ (n : ℕ). joined_cause r.opening.mode n xs ≡ 0) e1 good) })
    (λ e1. let e2 = last step lt (eqb-false step 0 e0) (eqb-false step 1 e1) in record { object = m'; same = at_step_2 step e2; holds = two_end r m m' xs i l e2 (held_at step 2 e2 small held) }))
  where
    last : (n : ℕ) → n < 3 → (n ≡ 0 → ⊥) → (n ≡ 1 → ⊥) → n ≡ 2
    last n a p q = omega arith

    at_step_2 : (n : ℕ) → n ≡ 2
        → ◌≡◌ {A = Host} (record { session = step2_end_session (session_of r) (field_part (kind_at r.opening.mode n) biometric_tag xs); object = m' }) (record { session = step2_end_session (session_of r) (field_part (kind_at r.opening.mode 2) biometric_tag xs); object = m' })
    at_step_2 n e = rw e

    held_at : (step k : ℕ) → step ≡ k → length xs ≤ capacity r.opening.mode step → take (length xs) (drop (base_of step) m') ≡ xs → Held r.opening.mode k xs m'
    held_at step k e s h = record { whole = l.size; small = rw e at s; held = rw e at h }
