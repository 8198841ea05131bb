-- The verdict call: one that is accepted sets its check's outcome and no other, and what holds goes on to hold.
-- Assumes nothing.
use mathlib.Core.Path.{◌≡◌, refl, sym, ap, ◌∙◌}
use mathlib.Core.Bool.{Bool, true, false}
use mathlib.Core.Option.{Option}
use mathlib.Core.List.{List, ◌∷◌}
use Prim.Native.Nat.{ℕ, ◌≤◌, ◌<◌}
use native.Mathlib.Omega.{arith}
use lib.Dec.{eqb, leb}
use lib.ListN.{length, set, length-set}
use lib.Seq.{get_or-set_same, get_or-set_other}
use borrow.Author.Tests.{leb-true, eqb-true, eqb-false, eq-eqb, not-false}
use Rattle.session.specs.Tables.{Figures, since, good_kind, needs, check_served, outcome_of, verdict_outcome}
use Rattle.session.specs.Condition.{verdict_conditions}
use Rattle.session.specs.Reading.{Opening, StepOne, Verdict, Found, Reading, own_fascn, verdict_refused, verdict_taken}
use Rattle.session.specs.Finding.{verdict_on}
use Rattle.session.specs.Operation.{verdict_taken_session}
use Rattle.session.proofs.OutcomeLaws.{place_of, placed, places_apart, verdict_small, set-in_range}
use Rattle.common.proofs.ConditionLaws.{none_fit}
use Rattle.session.proofs.Invariant.{session_of, Stage, VerdictGave, ExpiryJudged, ListJudged, Judged, Invariant}

-- ---- the outcomes

expiry_stays : (mode date : ℕ) (o u : List ℕ) (f : Option StepOne) → outcome_of u 3 ≡ outcome_of o 3 → ExpiryJudged mode date o f → ExpiryJudged mode date u f
expiry_stays mode date o u Option.none e j = tt
expiry_stays mode date o u (Option.some f) e j = e ∙ j

list_stays : (mode : ℕ) (o u : List ℕ) (f : Option StepOne) → outcome_of u 4 ≡ outcome_of o 4 → ListJudged mode o f → ListJudged mode u f
list_stays mode o u Option.none e j = tt
list_stays mode o u (Option.some f) e j = e ∙ j

-- ---- the call

stage_stays : (step : ℕ) (f g : Found) → step ≡ 3 → g.step1 ≡ f.step1 → Stage step f → Stage step g
stage_stays step f g e h (Stage.early l s) = absurd (omega arith)
stage_stays step f g e h (Stage.between l one s) = absurd (omega arith)
stage_stays step f g e h (Stage.late l one s) = Stage.late l one (h ∙ s)

module _ (a : Opening) (o : List ℕ) (f : Found) (kind yes_no : ℕ) (fascn : List ℕ) (j : Judged a o f)
    (good : good_kind since kind ≡ true) (bit : yes_no ≤ 1) (needed : needs a.mode (check_served kind) ≡ true) where
  abbrev outcome : ℕ
  outcome = verdict_outcome (own_fascn a.mode f.step1) yes_no fascn

  abbrev outcomes : List ℕ
  outcomes = set o (place_of kind) outcome

  abbrev verdict : Verdict
  verdict = record { kind = kind; yes_no = yes_no; fascn = fascn }

  inside : place_of kind < length o
  inside = rw j.counted (placed kind good).low

  -- of the kind of the verdict, and of another
  verdict_on_lem : (k : ℕ) → good_kind since k ≡ true → (b : Bool) → eqb kind k ≡ b
      → VerdictGave k (needs a.mode (check_served k)) (own_fascn a.mode f.step1) (verdict_on k (verdict ∷ f.verdicts)) (outcome_of outcomes (check_served k))
  unfolding verdict_on
  verdict_on_lem k g true e =
      rw (← eqb-true kind k e)
      (VerdictGave.taken yes_no fascn (rw (eq-eqb kind kind refl)) needed bit (get_or-set_same o (place_of kind) outcome 0 inside))
  verdict_on_lem k g false e =
      rw (e, get_or-set_other o (place_of kind) (place_of k) outcome 0 (λ z. eqb-false kind k e (sym (places_apart k kind g good z)))) (j.verdicts k g)

  judged_on : Judged a outcomes (record { step1 = f.step1; step2 = f.step2; verdicts = verdict ∷ f.verdicts })
  judged_on =
      record {
        counted = length-set o (place_of kind) outcome ∙ j.counted;
        small = set-in_range o (place_of kind) outcome (verdict_small (own_fascn a.mode f.step1) yes_no fascn) j.small;
        verdicts = λ k g. verdict_on_lem k g (eqb kind k) refl;
        expiry = expiry_stays a.mode a.date o outcomes f.step1 (get_or-set_other o (place_of kind) 2 outcome 0 (placed kind good).not_expiry) j.expiry;
        list = list_stays a.mode o outcomes f.step1 (get_or-set_other o (place_of kind) 3 outcome 0 (placed kind good).not_list) j.list;
      }

pub on_verdict : (r : Reading) (m : List ℕ) (kind yes_no : ℕ) (fascn : List ℕ) → Invariant r m → verdict_refused r kind yes_no fascn ≡ 0 → Invariant (verdict_taken r kind yes_no fascn) m
unfolding verdict_refused
on_verdict r m kind yes_no fascn i e =
    let c = none_fit (verdict_conditions r.figures r.opening.mode r.progress.step r.outcomes kind yes_no fascn) refl e in
    let last : r.progress.step ≡ 3 = eqb-true r.progress.step 3 (not-false (eqb r.progress.step 3) c.0) in
    let good : good_kind since kind ≡ true = ap (λ (f : Figures). good_kind f kind) (sym i.figures) ∙ not-false (good_kind r.figures kind) c.1.0 in
    let bit : yes_no ≤ 1 = leb-true yes_no 1 (not-false (leb yes_no 1) c.1.1.0) in
    let needed = not-false (needs r.opening.mode (check_served kind)) c.1.1.1.1.0 in
    record {
      figures = i.figures;
      opening = i.opening;
      progress_good = i.progress_good;
      held = i.held;
      one = i.one;
      two = i.two;
      stage = stage_stays r.progress.step r.found (verdict_taken r kind yes_no fascn).found last refl i.stage;
      judged = judged_on r.opening r.outcomes r.found kind yes_no fascn i.judged good bit needed;
    }

-- the session that has taken it stands for the reading that has
pub verdict_taken_session_lem : (r : Reading) (kind yes_no : ℕ) (fascn : List ℕ) → verdict_taken_session (session_of r) kind yes_no fascn ≡ session_of (verdict_taken r kind yes_no fascn)
unfolding verdict_taken_session
verdict_taken_session_lem r kind yes_no fascn = refl
