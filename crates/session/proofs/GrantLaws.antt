-- Granted, said of the calls: the standing is 1 exactly where every check that the mode needs passed on the FASC-N of step 1.
-- Assumes nothing.
use mathlib.Core.Path.{◌≡◌, refl, sym, ap, subst, ◌∙◌}
use mathlib.Core.Bool.{Bool, true, false, cond, not, ◌&&◌, ◌||◌}
use mathlib.Core.Logic.{◌↔◌}
use mathlib.Core.Option.{Option}
use mathlib.Core.List.{List, [], ◌∷◌}
use Prim.Native.Nat.{ℕ, zero, suc, ◌+◌, ◌≤◌, ◌<◌}
use native.Mathlib.Omega.{arith}
use borrow.Author.Tests.{eqb-true, eqb-false, leb-true, le-leb}
use lib.Dec.{eqb, leb}
use lib.ListN.{length, get_or}
use Rattle.common.specs.Lists.{same_bytes, is_in}
use Rattle.common.proofs.ListsLaws.{all_at}
use Rattle.common.proofs.ListsLaws.{same_bytes_lem, same_refl}
use Rattle.session.specs.Tables.{Figures, since, checks, checks_of, good_kind, needs, check_served, outcome_of, passed, unneeded, failed, other_card, verdict_outcome, expiry_outcome, list_outcome, lowest_from, cause_of, all_passed, standing_of, fascn_read, key_read, expiry_read}
use Rattle.session.specs.Reading.{Opening, StepOne, Verdict, Found, Reading, own_fascn}
use Rattle.session.specs.Finding.{verdict_on, finding, standing, Granted}
use Rattle.common.proofs.TestLaws.{clash, and_left, and_right, either}
use Rattle.session.proofs.OutcomeLaws.{place_of, placed}
use Rattle.session.proofs.Invariant.{Stage, VerdictGave, ExpiryJudged, ListJudged, Judged, Invariant}

-- ---- checks and kinds

-- what holds of the checks of each mode
by_mode : (P : List ℕ → Type 0) → P (1 ∷ 2 ∷ 3 ∷ 4 ∷ []) → P (3 ∷ 4 ∷ 5 ∷ []) → P (1 ∷ 2 ∷ 3 ∷ 4 ∷ 6 ∷ []) → P (1 ∷ 2 ∷ 3 ∷ 4 ∷ 5 ∷ 6 ∷ []) → P (1 ∷ 2 ∷ 3 ∷ 4 ∷ 7 ∷ []) → P (1 ∷ 2 ∷ 3 ∷ 4 ∷ 5 ∷ 7 ∷ [])
    → (mode : ℕ) → P (checks_of mode)
by_mode P a b c d e f mode = either P (eqb mode 1) a (either P (eqb mode 2) b (either P (eqb mode 3) c (either P (eqb mode 4) d (either P (eqb mode 5) e f))))

-- every mode needs checks 3 and 4
abbrev Both : List ℕ → Type 0
Both cs = (is_in 3 cs ≡ true) × (is_in 4 cs ≡ true)

needs_both : (mode : ℕ) → (needs mode 3 ≡ true) × (needs mode 4 ≡ true)
unfolding needs
needs_both = by_mode Both (refl, refl) (refl, refl) (refl, refl) (refl, refl) (refl, refl) (refl, refl)

-- the kinds of a reading by the figures since
kind_in : (r : Reading) (kind : ℕ) → r.figures ≡ since → good_kind r.figures kind ≡ good_kind since kind
kind_in r kind e = ap (λ (f : Figures). good_kind f kind) e

-- checks 3 and 4, where step 1 has ended well
expiry_judged : {p : Opening} {o : List ℕ} {f : Found} {one : StepOne} → Judged p o f → f.step1 ≡ Option.some one
    → outcome_of o 3 ≡ expiry_outcome p.date (expiry_read p.mode one.joined)
expiry_judged {p} {o} j e = subst (ExpiryJudged p.mode p.date o) e j.expiry

list_judged : {p : Opening} {o : List ℕ} {f : Found} {one : StepOne} → Judged p o f → f.step1 ≡ Option.some one
    → outcome_of o 4 ≡ list_outcome (key_read p.mode one.joined) one.cancelled
list_judged {p} {o} j e = subst (ListJudged p.mode o) e j.list

-- ---- granted, from the standing

-- a standing of 1 has passed the second test
stands : (a b : Bool) → cond {A = ℕ} a 2 (cond b 1 0) ≡ 1 → b ≡ true
stands a true e = refl
stands true false e = absurd (omega arith)
stands false false e = absurd (omega arith)

-- a needed check passed
passed_at : (mode : ℕ) (o : List ℕ) → all_passed mode o ≡ true → (i : ℕ) → i < length o → needs mode (i + 1) ≡ true → get_or o i 0 ≡ passed
unfolding all_passed
passed_at mode o p i low n =
    let t : (not (needs mode (i + 1)) || eqb (get_or o i 0) passed) ≡ true = all_at _ (length o) p i low in
    eqb-true (get_or o i 0) passed (rw n at t)

-- what the outcomes of checks 3 and 4 say where they passed
in_time_by : (date expiry : ℕ) → expiry_outcome date expiry ≡ passed → date ≤ expiry
unfolding expiry_outcome
in_time_by date expiry e = leb-true date expiry (go (leb date expiry) e)
  where
    go : (b : Bool) → cond {A = ℕ} b passed failed ≡ passed → b ≡ true
    go true q = refl
    go false q = absurd (omega arith)

not_listed_by : (key : ℕ) (cancelled : List ℕ) → list_outcome key cancelled ≡ passed → is_in key cancelled ≡ false
unfolding list_outcome
not_listed_by key cancelled e = go (is_in key cancelled) e
  where
    go : (b : Bool) → cond {A = ℕ} b failed passed ≡ passed → b ≡ false
    go true q = absurd (omega arith)
    go false q = refl

-- the verdict that passed was a yes on the card's own bytes
yes_by : (own : List ℕ) (yes_no : ℕ) (fascn : List ℕ) → verdict_outcome own yes_no fascn ≡ passed → (yes_no ≡ 0 → ⊥) × (fascn ≡ own)
unfolding verdict_outcome
yes_by own yes_no fascn e = let q = go (eqb yes_no 0) (same_bytes fascn own) e in (eqb-false yes_no 0 q.0, same_bytes_lem fascn own q.1)
  where
    go : (a b : Bool) → cond {A = ℕ} a failed (cond b passed other_card) ≡ passed → (a ≡ false) × (b ≡ true)
    go true b q = absurd (omega arith)
    go false true q = (refl, refl)
    go false false q = absurd (omega arith)

-- so of a needed kind that passed such a verdict was accepted
taken_yes : (kind : ℕ) (needed : Bool) (own : List ℕ) (v : Option Verdict) (o : ℕ) → VerdictGave kind needed own v o → needed ≡ true → o ≡ passed
    → v ≡ Option.some (record { kind = kind; yes_no = 1; fascn = own })
taken_yes kind needed own v o (VerdictGave.awaiting n e) t p = let h : ◌≡◌ {A = ℕ} 1 2 = sym (ap (λ (b : Bool). cond b 1 0) t) ∙ sym e ∙ p in absurd (omega arith)
taken_yes kind needed own v o (VerdictGave.taken yes_no fascn n c le e) t p =
    let y = yes_by own yes_no fascn (sym e ∙ p) in
    let one : yes_no ≡ 1 = omega (arith, le, y.0) in
    n ∙ rw (one, y.1) refl

-- at step 3 step 1 has ended well
late_one : (step : ℕ) (f : Found) → Stage step f → step ≡ 3 → (one : StepOne) × (f.step1 ≡ Option.some one)
late_one step f (Stage.early l e) z = absurd (omega arith)
late_one step f (Stage.between l x e) z = absurd (omega arith)
late_one step f (Stage.late l x e) z = (x, e)

grants : (r : Reading) (m : List ℕ) → Invariant r m → standing (finding r) ≡ 1 → Granted r
unfolding finding standing_of
grants r m i e =
    let mode = r.opening.mode in
    let o = r.outcomes in
    let j = i.judged in
    let k = stands (not (eqb (cause_of r.progress.cause o) 0)) (eqb r.progress.step 3 && all_passed mode o) e in
    let last : r.progress.step ≡ 3 = eqb-true r.progress.step 3 (and_left _ _ k) in
    let p : (i : ℕ) → i < checks → needs mode (i + 1) ≡ true → get_or o i 0 ≡ passed =
    λ n low. passed_at mode o (and_right (eqb r.progress.step 3) (all_passed mode o) k) n (rw j.counted low) in
    let x = late_one r.progress.step r.found i.stage last in
    let one = x.0 in
    let own : own_fascn mode r.found.step1 ≡ fascn_read mode one.joined = ap (own_fascn mode) x.1 in
    record {
      passed = and_right (eqb r.progress.step 3) (all_passed mode o) k;
      one = one;
      read = x.1;
      in_time = in_time_by _ _ (sym (expiry_judged j x.1) ∙ p 2 (omega arith) (needs_both mode).0);
      not_listed = not_listed_by _ _ (sym (list_judged j x.1) ∙ p 3 (omega arith) (needs_both mode).1);
      verdicts = λ kind known n. let good = sym (kind_in r kind i.figures) ∙ known in rw (← own) (taken_yes kind _ _ _ _ (j.verdicts kind good) n (p (place_of kind) (placed kind good).low (rw (placed kind good).next n)));
    }

-- ---- the standing, from granted

-- where no outcome is 3 or 4, no check is the lowest that failed
none_failed : (c : ℕ) (o : List ℕ) → ((i : ℕ) → i < length o → (eqb (get_or o i 0) failed || eqb (get_or o i 0) other_card) ≡ false) → lowest_from c o ≡ 0
unfolding lowest_from
none_failed c [] h = refl
none_failed c (v ∷ o) h = rw (h 0 (omega arith)) (none_failed (suc c) o (λ i l. h (suc i) (omega arith)))

-- yes or no, and on which bytes
abbrev content : Option Verdict → ℕ × List ℕ
content Option.none = (0, [])
content (Option.some v) = (v.yes_no, v.fascn)

-- the outcome of a kind whose verdict, where it is needed, was a yes on the card's own bytes
yes_taken : (kind : ℕ) (needed : Bool) (own : List ℕ) (v : Option Verdict) (o : ℕ) → VerdictGave kind needed own v o
    → (needed ≡ true → v ≡ Option.some (record { kind = kind; yes_no = 1; fascn = own })) → o ≡ cond needed passed unneeded
unfolding verdict_outcome
yes_taken kind false own v o (VerdictGave.awaiting n e) h = e
yes_taken kind false own v o (VerdictGave.taken yes_no fascn n c le e) h = clash c
yes_taken kind true own v o (VerdictGave.awaiting n e) h = let q : ◌≡◌ {A = ℕ} 0 1 = ap (λ (w : Option Verdict). (content w).0) (sym n ∙ h refl) in absurd (omega arith)
yes_taken kind true own v o (VerdictGave.taken yes_no fascn n c le e) h =
    let z = sym (ap content n) ∙ ap content (h refl) in
    let one : yes_no ≡ 1 = ap (λ (p : ℕ × List ℕ). p.0) z in
    let same : fascn ≡ own = ap (λ (p : ℕ × List ℕ). p.1) z in
    e ∙ rw (one, same, same_refl own) refl

-- a law of the seven places, place by place
seven : (P : ℕ → Type 0) → P 0 → P 1 → P 2 → P 3 → P 4 → P 5 → P 6 → (i : ℕ) → i < checks → P i
seven P a b c d e f g zero h = a
seven P a b c d e f g (suc zero) h = b
seven P a b c d e f g (suc (suc zero)) h = c
seven P a b c d e f g (suc (suc (suc zero))) h = d
seven P a b c d e f g (suc (suc (suc (suc zero)))) h = e
seven P a b c d e f g (suc (suc (suc (suc (suc zero))))) h = f
seven P a b c d e f g (suc (suc (suc (suc (suc (suc zero)))))) h = g
seven P a b c d e f g (suc (suc (suc (suc (suc (suc (suc i))))))) h = absurd (omega arith)

-- ---- the step, from granted

-- every mode needs a verdict
abbrev SomeKind : List ℕ → Type 0
SomeKind cs = (kind : ℕ) × ((good_kind since kind ≡ true) × (is_in (check_served kind) cs ≡ true))

a_kind : (mode : ℕ) → (kind : ℕ) × ((good_kind since kind ≡ true) × (needs mode (check_served kind) ≡ true))
unfolding needs check_served
a_kind = by_mode SomeKind (1, (refl, refl)) (3, (refl, refl)) (1, (refl, refl)) (1, (refl, refl)) (1, (refl, refl)) (1, (refl, refl))

abbrev is_given : Option Verdict → Bool
is_given Option.none = false
is_given (Option.some v) = true

-- a verdict was accepted at step 3 only
given_late : (step kind : ℕ) (f : Found) → Stage step f → is_given (verdict_on kind f.verdicts) ≡ true → step ≡ 3
unfolding verdict_on
given_late step kind f (Stage.early l e) g = clash (sym (ap (λ (x : Found). is_given (verdict_on kind x.verdicts)) e) ∙ g)
given_late step kind f (Stage.between l x e) g = clash (sym (ap (λ (x : Found). is_given (verdict_on kind x.verdicts)) e) ∙ g)
given_late step kind f (Stage.late l x e) g = l

pub at_step_3 : (r : Reading) (m : List ℕ) → Invariant r m → Granted r → r.progress.step ≡ 3
at_step_3 r m i g =
    let k = a_kind r.opening.mode in
    given_late r.progress.step k.0 r.found i.stage (ap is_given (g.verdicts k.0 (kind_in r k.0 i.figures ∙ k.1.0) k.1.1))

-- every outcome is then 2 where the check is needed, and 0 elsewhere
settled : (r : Reading) (m : List ℕ) → Invariant r m → Granted r → (i : ℕ) → i < checks → get_or r.outcomes i 0 ≡ cond (needs r.opening.mode (i + 1)) passed unneeded
unfolding check_served expiry_outcome list_outcome
settled r m i g =
    let mode = r.opening.mode in
    let o = r.outcomes in
    let one = g.one in
    let j = i.judged in
    let own : own_fascn mode r.found.step1 ≡ fascn_read mode one.joined = ap (own_fascn mode) g.read in
    let by_kind : (kind : ℕ) → good_kind since kind ≡ true → outcome_of o (check_served kind) ≡ cond (needs mode (check_served kind)) passed unneeded =
    λ kind good. yes_taken kind _ _ _ _ (j.verdicts kind good) (λ n. rw own (g.verdicts kind (kind_in r kind i.figures ∙ good) n)) in
    seven (λ (k : ℕ). get_or o k 0 ≡ cond (needs mode (k + 1)) passed unneeded) (by_kind 1 refl) (by_kind 2 refl)
    (rw (needs_both mode).0 (expiry_judged j g.read ∙ rw (le-leb _ _ g.in_time) refl)) (rw (needs_both mode).1 (list_judged j g.read ∙ rw g.not_listed refl)) (by_kind 3 refl) (by_kind 4 refl) (by_kind 5 refl)

sound : (b : Bool) → (eqb (cond b passed unneeded) failed || eqb (cond b passed unneeded) other_card) ≡ false
sound true = refl
sound false = refl

granted : (r : Reading) (m : List ℕ) → Invariant r m → Granted r → standing (finding r) ≡ 1
unfolding finding standing_of cause_of all_passed
granted r m i g =
    let mode = r.opening.mode in
    let o = r.outcomes in
    let s = settled r m i g in
    let low : lowest_from 1 o ≡ 0 = none_failed 1 o (λ k h. rw (s k (rw i.judged.counted at h)) (sound (needs mode (k + 1)))) in
    let last = at_step_3 r m i g in
    rw (last, i.progress_good.no_cause last, low, g.passed) refl

-- the standing is 1 exactly where the calls say granted
pub granted_iff : (r : Reading) (m : List ℕ) → Invariant r m → (standing (finding r) ≡ 1) ↔ Granted r
granted_iff r m i = (grants r m i, granted r m i)
