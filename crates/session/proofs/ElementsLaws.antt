-- The elements of step 1's object that a finding does not use (document 02, request 5: "checked for place and length and not used"): two objects with the same FASC-N and the same
-- expiry field give one finding, whatever calls follow, however they differ in their other fields.
-- Assumes nothing.
use mathlib.Core.Path.{◌≡◌, refl, sym, ap, ap₂, subst, ◌∙◌}
use mathlib.Core.Bool.{true, false, cond}
use mathlib.Core.Option.{Option}
use mathlib.Core.List.{List, [], ◌∷◌, ◌++◌}
use Prim.Native.Nat.{ℕ, ◌<◌}
use native.Mathlib.Omega.{arith}
use borrow.Author.Tests.{eqb-true}
use lib.Dec.{eqb}
use lib.ListN.{length}
use Rattle.card.specs.Object.{fascn_tag, expiry_tag, object_of, field_value}
use Rattle.card.specs.Fascn.{unpack_of, key_of}
use Rattle.card.specs.Date.{date_of}
use Rattle.card.specs.Command.{status_of}
use Rattle.card.specs.declared.command.Status.{Status}
use Rattle.card.specs.declared.command.Status.TheVariants.{Done, More, Again, Other}
use Rattle.card.proofs.OlderLaws.{LengthOrNone, WithElements, AnyElements, signed_elements, unsigned_elements}
use Rattle.common.proofs.TestLaws.{by_test, either}
use Rattle.session.specs.Tables.{ends, with_outcome, expiry_outcome, list_outcome, has_step2, kind_at, capacity, data_of, status_bytes, fascn_read, joined_cause, object_cause}
use Rattle.session.specs.Reading.{StepOne, Verdict, Arguments, Progress, Reading, with_progress, stopped, cause_by, command_refused, answer_refused, verdict_refused, preview_refused, step1_end, good_end, judged, appended, answer_taken, has_number, refused_by, accepted, read, reading, refusals}
use Rattle.session.specs.Finding.{Finding, finding}
use Rattle.session.specs.Promise.{Bytes}
use Rattle.session.proofs.RuleLaws.{joined_in_range}
use Rattle.session.proofs.EndedLaws.{Ended, ended_stays, ended_list}

-- ---- what the number of a call does not depend on

-- a reading without its status word, its joined data and what was found
abbrev bare : Reading → Reading
bare r =
    let p = r.progress in
    record { figures = r.figures; opening = r.opening; progress = record { step = p.step; cause = p.cause; sw1 = 0; sw2 = 0; joined = []; outstanding = p.outstanding; next = p.next }; outcomes = r.outcomes; found = record { step1 = Option.none; step2 = Option.none; verdicts = [] } }

-- it gives every call the same number
number_by : (r : Reading) (t : Arguments) → refused_by r t ≡ refused_by (bare r) t
unfolding command_refused answer_refused verdict_refused preview_refused
number_by r (Arguments.command room) = refl
number_by r (Arguments.answer size bytes cancelled) = refl
number_by r (Arguments.verdict kind yes_no fascn) = refl
number_by r (Arguments.field size tag) = refl
number_by r (Arguments.stamp room) = refl
number_by r (Arguments.preview kind yes_no fascn room) = refl

-- ---- two readings that differ in step 1's object alone

-- field 35 of step 1's object
abbrev pub expiry_field : ℕ → List ℕ → List ℕ
expiry_field mode joined = field_value (kind_at mode 1) expiry_tag joined

-- a reading with what step 1 gave
abbrev with_one : Reading → StepOne → Reading
with_one r one =
    record { figures = r.figures; opening = r.opening; progress = r.progress; outcomes = r.outcomes; found = record { step1 = Option.some one; step2 = r.found.step2; verdicts = r.found.verdicts } }

-- past step 1, two readings that are the same but for step 1's object, whose FASC-N and expiry are the same
record SameCard (q r : Reading) : Type 0 where
  base : Reading
  one : StepOne
  two : StepOne
  left : q ≡ with_one base one
  right : r ≡ with_one base two
  late : 1 < base.progress.step
  fascn : fascn_read base.opening.mode one.joined ≡ fascn_read base.opening.mode two.joined
  expiry : expiry_field base.opening.mode one.joined ≡ expiry_field base.opening.mode two.joined

-- they have one finding, by the two fields
abbrev finding_by : Reading → List ℕ → List ℕ → Finding
finding_by r fascn expiry =
    let f = finding r in
    record { mode = f.mode; date = f.date; step = f.step; cause = f.cause; sw1 = f.sw1; sw2 = f.sw2; outcomes = f.outcomes; digits = Option.some (unpack_of fascn).1; expiry = Option.some (date_of expiry).1 }

same_finding : {q r : Reading} → SameCard q r → finding q ≡ finding r
unfolding finding
same_finding t = ap finding t.left ∙ ap₂ (finding_by t.base) t.fascn t.expiry ∙ sym (ap finding t.right)

-- ---- every call leaves them so

module _ (b : Reading) (one two : StepOne) (late : 1 < b.progress.step) (fascn : fascn_read b.opening.mode one.joined ≡ fascn_read b.opening.mode two.joined)
    (expiry : expiry_field b.opening.mode one.joined ≡ expiry_field b.opening.mode two.joined) where
  -- what else they have may change, in both
  same_with : (p : Progress) (outcomes : List ℕ) (found : Option (List ℕ)) (verdicts : List Verdict) → 1 < p.step
      → let x : Reading = record { figures = b.figures; opening = b.opening; progress = p; outcomes = outcomes; found = record { step1 = Option.none; step2 = found; verdicts = verdicts } } in SameCard (with_one x one) (with_one x two)
  same_with p outcomes found verdicts h = record { base = record { figures = b.figures; opening = b.opening; progress = p; outcomes = outcomes; found = record { step1 = Option.none; step2 = found; verdicts = verdicts } }; one = one; two = two; left = refl; right = refl; late = h; fascn = fascn; expiry = expiry }

  judged_same : (joined cancelled : List ℕ) → SameCard (judged (with_one b one) joined cancelled) (judged (with_one b two) joined cancelled)
  unfolding judged good_end
  judged_same joined cancelled =
      by_test SameCard _ _ _ _ (eqb (joined_cause b.opening.mode b.progress.step joined) 0)
      (λ _. by_test SameCard _ _ _ _ (eqb b.progress.step 0) (λ e. absurd (omega (arith, eqb-true b.progress.step 0 e, late)))
      (λ _. by_test SameCard _ _ _ _ (eqb b.progress.step 1) (λ e. absurd (omega (arith, eqb-true b.progress.step 1 e, late))) (λ _. same_with _ _ _ _ (omega arith))))
      (λ _. same_with _ _ _ _ late)

  appended_same : (status : Status) (joined cancelled : List ℕ) → SameCard (appended status (with_one b one) joined cancelled) (appended status (with_one b two) joined cancelled)
  appended_same Done joined cancelled = judged_same joined cancelled
  appended_same (More second) joined cancelled = same_with _ _ _ _ late
  appended_same (Again last) joined cancelled = same_with _ _ _ _ late
  appended_same Other joined cancelled = judged_same joined cancelled

  answer_same : (bytes status cancelled : List ℕ) → SameCard (answer_taken (with_one b one) bytes status cancelled) (answer_taken (with_one b two) bytes status cancelled)
  unfolding answer_taken
  answer_same bytes status cancelled =
      by_test SameCard _ _ _ _ (eqb (cause_by b.progress (capacity b.opening.mode b.progress.step) (status_of status) bytes) 0)
      (λ _. appended_same (status_of status) (b.progress.joined ++ bytes) cancelled) (λ _. same_with _ _ _ _ late)

  accepted_same : (t : Arguments) → SameCard (accepted (with_one b one) t) (accepted (with_one b two) t)
  accepted_same (Arguments.command room) = same_with _ _ _ _ late
  accepted_same (Arguments.answer size bytes cancelled) = answer_same (data_of bytes) (status_bytes bytes) cancelled
  accepted_same (Arguments.verdict kind yes_no fascn') = rw fascn (same_with _ _ _ _ late)
  accepted_same (Arguments.field size tag) = same_with _ _ _ _ late
  accepted_same (Arguments.stamp room) = same_with _ _ _ _ late
  accepted_same (Arguments.preview kind yes_no fascn' room) = same_with _ _ _ _ late

  -- and is refused in both by one number
  same_number : (t : Arguments) → refused_by (with_one b one) t ≡ refused_by (with_one b two) t
  same_number t = number_by (with_one b one) t ∙ sym (number_by (with_one b two) t)

  read_same : (t : Arguments) → SameCard (read (with_one b one) t) (read (with_one b two) t)
  unfolding read
  read_same t = rw (same_number t) (by_test SameCard _ _ _ _ (eqb (refused_by (with_one b two) t) 0) (λ _. accepted_same t) (λ _. same_with _ _ _ _ late))

-- ---- and so does every list of calls

one_read : {q r : Reading} → SameCard q r → (t : Arguments) → SameCard (read q t) (read r t) × (refused_by q t ≡ refused_by r t)
one_read {q} {r} w t =
    let read-on = read_same w.base w.one w.two w.late w.fascn w.expiry t in
    let number = same_number w.base w.one w.two w.late w.fascn w.expiry t in (
      subst (λ (x : Reading). SameCard (read x t) (read r t)) (sym w.left) (subst (λ (y : Reading). SameCard (read (with_one w.base w.one) t) (read y t)) (sym w.right) read-on),
      ap (λ (x : Reading). refused_by x t) w.left ∙ number ∙ sym (ap (λ (x : Reading). refused_by x t) w.right),
    )

list_same : {q r : Reading} → SameCard q r → (ts : List Arguments) → SameCard (reading q ts) (reading r ts) × (refusals q ts ≡ refusals r ts)
list_same w [] = (w, refl)
list_same {q = q} {r = r} w (t ∷ ts) =
    let now = one_read w t in
    let later = list_same {q = read q t} {r = read r t} now.0 ts in
    (later.0, ap₂ (λ (n : ℕ) (ns : List ℕ). cond (has_number t) (n ∷ ns) ns) now.1 later.1)

-- ---- two readings that a cause has ended, with unlike joined data

module _ (r : Reading) (p : Progress) (cause : ℕ) (xs ys : List ℕ) (ended : ends cause ≡ true) (not-all_read : eqb p.step 3 ≡ false) where
  abbrev ended-with : List ℕ → Reading
  ended-with joined = with_progress r (stopped p joined cause 0 0)

  stays_with : (joined : List ℕ) → Ended (ended-with joined)
  stays_with joined = record { cause = ended; answered = refl; not-all_read = not-all_read }

  ended-number : (t : Arguments) → refused_by (ended-with xs) t ≡ refused_by (ended-with ys) t
  ended-number t = number_by (ended-with xs) t ∙ sym (number_by (ended-with ys) t)

  ended-numbers : (ts : List Arguments) → refusals (ended-with xs) ts ≡ refusals (ended-with ys) ts
  ended-numbers [] = refl
  ended-numbers (t ∷ ts) =
      let later : refusals (read (ended-with xs) t) ts ≡ refusals (read (ended-with ys) t) ts =
      rw (ended_stays (ended-with xs) (stays_with xs) t, ended_stays (ended-with ys) (stays_with ys) t) (ended-numbers ts) in
      ap₂ (λ (n : ℕ) (ns : List ℕ). cond (has_number t) (n ∷ ns) ns) (ended-number t) later

  ended-finding : (ts : List Arguments) → finding (reading (ended-with xs) ts) ≡ finding (reading (ended-with ys) ts)
  unfolding finding
  ended-finding ts = rw (ended_list (ended-with xs) (stays_with xs) ts, ended_list (ended-with ys) (stays_with ys) ts)

-- ---- two objects of step 1

-- After these calls two readings have the same finding, and each call was refused in both or in neither, by the same number.
abbrev pub SameAfter : List Arguments → Reading → Reading → Type 0
SameAfter ts q r = (finding (reading q ts) ≡ finding (reading r ts)) × (refusals q ts ≡ refusals r ts)

module _ (r : Reading) (xs ys cancelled : List ℕ) (at_one : r.progress.step ≡ 1) (xs-object : (object_of (kind_at r.opening.mode 1) xs).0 ≡ 0) (ys-object : (object_of (kind_at r.opening.mode 1) ys).0 ≡ 0)
    (fascn : fascn_read r.opening.mode xs ≡ fascn_read r.opening.mode ys) (expiry : expiry_field r.opening.mode xs ≡ expiry_field r.opening.mode ys) where
  -- the judging gives them one cause: none, 21 or 22
  same_cause : joined_cause r.opening.mode 1 ys ≡ joined_cause r.opening.mode 1 xs
  unfolding joined_cause object_cause
  same_cause = rw (xs-object, ys-object, fascn, expiry)

  -- and at its good end sets checks 3 and 4 alike
  abbrev outcomes-by : List ℕ → List ℕ → List ℕ
  outcomes-by own date = with_outcome (with_outcome r.outcomes 3 (expiry_outcome r.opening.date (date_of date).1)) 4 (list_outcome (key_of (unpack_of own).1) cancelled)

  good_end_same : SameCard (step1_end r xs cancelled) (step1_end r ys cancelled)
  good_end_same =
      let two : StepOne = record { joined = ys; cancelled = cancelled } in
      let base = step1_end r xs cancelled in
      let same : step1_end r ys cancelled ≡ with_one base two =
      ap (λ (o : List ℕ). record { figures = r.figures; opening = r.opening; progress = base.progress; outcomes = o; found = record { step1 = Option.some two; step2 = r.found.step2; verdicts = r.found.verdicts } }) (ap₂ outcomes-by (sym fascn) (sym expiry)) in
      record { base = base; one = record { joined = xs; cancelled = cancelled }; two = two; left = refl; right = same; late = either (λ (n : ℕ). 1 < n) (has_step2 r.opening.mode) (omega arith) (omega arith); fascn = fascn; expiry = expiry }

  -- Two data objects of step 1 that are accepted and have the same fields 30 and 35, in whatever else they differ: after the same calls, whatever these are, the findings are the same, and
  -- each call is refused in both or in neither, by the same number.
  pub elements_unused : (ts : List Arguments) → SameAfter ts (judged r xs cancelled) (judged r ys cancelled)
  unfolding judged good_end
  elements_unused ts =
      let k = joined_cause r.opening.mode 1 xs in
      let p : Progress = record { step = 1; cause = 0; sw1 = 0; sw2 = 0; joined = []; outstanding = false; next = r.progress.next } in
      rw (at_one, same_cause)
      (by_test (SameAfter ts) _ _ _ _ (eqb k 0) (λ _. let w = list_same good_end_same ts in (same_finding w.0, w.1))
      (λ e. let past : ends k ≡ true = rw e at (joined_in_range r.opening.mode 1 xs) in (ended-finding r p k xs ys past refl ts, ended-numbers r p k xs ys past refl ts)))

-- "A finding treats such an object as well formed.": take any object that step 1 accepts, and choose the elements EE, 31, 32 and 33 anew, each of its length or left out. There is an object with
-- these and in every other field the same, and whatever calls follow, the finding is that of the first.
pub any_elements : (r : Reading) (xs cancelled : List ℕ) → r.progress.step ≡ 1 → Bytes xs → (object_of (kind_at r.opening.mode 1) xs).0 ≡ 0
    → (ee agency organization duns : List ℕ) → LengthOrNone 2 (length ee) → LengthOrNone 4 (length agency) → LengthOrNone 4 (length organization) → LengthOrNone 9 (length duns)
    → (w : WithElements (kind_at r.opening.mode 1) xs ee agency organization duns) × ((ts : List Arguments) → SameAfter ts (judged r xs cancelled) (judged r w.object cancelled))
any_elements r xs cancelled at_one bytes object ee agency organization duns f g h i =
    let choice = either AnyElements (eqb r.opening.mode 2) unsigned_elements signed_elements in
    let w = choice xs bytes object ee agency organization duns f g h i in
    (w, elements_unused r xs w.object cancelled at_one object w.accepted (sym (w.others fascn_tag refl)) (sym (w.others expiry_tag refl)))
