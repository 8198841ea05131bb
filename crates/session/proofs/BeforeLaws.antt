-- Modes 1 to 4 before and since request 7 of document 02: whatever calls are made, the reading since is the reading before, with outcome 7, which is 0, after the six. So is the finding,
-- its standing is the same, its stamp has a byte 00 more, and each call has the number that it had, but for a verdict or preview of kind 5, which is refused in both.
-- Assumes nothing.
use mathlib.Core.Path.{◌≡◌, refl, sym, ap, ap₂, subst, ◌∙◌}
use mathlib.Core.Bool.{Bool, true, false, cond, not, ◌&&◌, ◌||◌, and-true}
use mathlib.Core.List.{List, [], ◌∷◌, ◌++◌, map, append_assoc}
use Prim.Native.Nat.{ℕ, zero, suc, ◌+◌, ◌-◌, ◌<◌, suc-le-suc}
use native.Mathlib.Numerals.{add-one}
use native.Mathlib.Omega.{arith}
use borrow.Author.Tests.{leb-true, le-leb, eqb-true, eqb-false, ne_eqb, not-false}
use lib.Dec.{eqb, ltb, leb, leb-suc-suc}
use lib.ListN.{length, get_or, set, take, drop, length-append, length-set}
use lib.Seq.{set-append_left, take_at, drop_at}
use Rattle.common.specs.Lists.{list_of, all}
use Rattle.common.specs.Refusal.{refusal_of}
use Rattle.common.proofs.TestLaws.{clash, and_right, same_test, by_test, either}
use Rattle.common.proofs.ConditionLaws.{numbered, none_fit}
use Rattle.common.proofs.ListsLaws.{all_ext}
use Rattle.card.specs.Command.{status_of}
use Rattle.card.specs.declared.command.Status.{Status}
use Rattle.card.specs.declared.command.Status.TheVariants.{Done, More, Again, Other}
use Rattle.session.specs.Tables.{before, since, object_size, mode_in_range, needs, good_kind, check_served, outcome_of, awaited, passed, needed_at, needed_outcomes, lowest_from, cause_of, all_passed, standing_of, capacity, data_of, status_bytes, joined_cause, four_bytes, head_size, stamp_size, stamp_layout}
use Rattle.session.specs.Condition.{verdict_conditions, stamp_conditions}
use Rattle.session.specs.Reading.{Opening, Arguments, Progress, Found, Reading, begins, command_refused, answer_refused, verdict_refused, preview_refused, good_end, judged, appended, cause_by, answer_taken, refused_by, accepted, read, reading, field_for, field_in}
use Rattle.session.specs.Finding.{Finding, finding, standing, stamp_of}

-- ---- calls, readings and findings since

-- a size of the object buffer that is right since exactly where it was right before: the two right sizes change places
abbrev pub size_since : ℕ → ℕ
size_since n = cond (eqb n before.object_size) since.object_size (cond (eqb n since.object_size) before.object_size n)

-- the same call, with a buffer for the object that is right where it was, and a byte more for the stamp
abbrev pub arguments_since : Arguments → Arguments
arguments_since (Arguments.command room) = Arguments.command room
arguments_since (Arguments.answer size bytes cancelled) = Arguments.answer (size_since size) bytes cancelled
arguments_since (Arguments.verdict kind yes_no fascn) = Arguments.verdict kind yes_no fascn
arguments_since (Arguments.field size tag) = Arguments.field (size_since size) tag
arguments_since (Arguments.stamp room) = Arguments.stamp (suc room)
arguments_since (Arguments.preview kind yes_no fascn room) = Arguments.preview kind yes_no fascn (suc room)

-- the reading, and the finding, with outcome 7, which is 0
abbrev pub reading_since : Reading → Reading
reading_since r = record { figures = since; opening = r.opening; progress = r.progress; outcomes = r.outcomes ++ (0 ∷ []); found = r.found }

abbrev pub finding_since : Finding → Finding
finding_since f = record { mode = f.mode; date = f.date; step = f.step; cause = f.cause; sw1 = f.sw1; sw2 = f.sw2; outcomes = f.outcomes ++ (0 ∷ []); digits = f.digits; expiry = f.expiry }

-- a stamp with 00 put in after the sixth outcome
abbrev pub stamp_since : List ℕ → List ℕ
stamp_since s = take (head_size + before.checks) s ++ (0 ∷ drop (head_size + before.checks) s)

-- a verdict, or a preview of one, of the kind that is new
abbrev pub of_new_kind : Arguments → Bool
of_new_kind (Arguments.command room) = false
of_new_kind (Arguments.answer size bytes cancelled) = false
of_new_kind (Arguments.verdict kind yes_no fascn) = eqb kind since.greatest_kind
of_new_kind (Arguments.field size tag) = false
of_new_kind (Arguments.stamp room) = false
of_new_kind (Arguments.preview kind yes_no fascn room) = eqb kind since.greatest_kind

-- ---- single values

-- the size is right since exactly where it was right before; and the change is one to one, for made twice it is none
pub size_right : (n : ℕ) → (eqb (size_since n) since.object_size ≡ eqb n before.object_size) × (size_since (size_since n) ≡ n)
unfolding object_size
size_right n = go (eqb n before.object_size) (eqb n since.object_size) refl refl
  where
    go : (a b : Bool) → eqb n before.object_size ≡ a → eqb n since.object_size ≡ b → let m = cond a since.object_size (cond b before.object_size n) in (eqb m since.object_size ≡ a) × (size_since m ≡ n)
    go true b d e = (refl, sym (eqb-true n before.object_size d))
    go false true d e = (refl, sym (eqb-true n since.object_size e))
    go false false d e = (e, rw (d, e))

-- a byte more of room is enough since where the room was enough before
room_right : (room : ℕ) → ltb (suc room) (stamp_size since) ≡ ltb room (stamp_size before)
unfolding stamp_size
room_right room = leb-suc-suc (suc room) (stamp_size before)

-- a kind that is not the new one is good since where it was good before
kind_right : (kind : ℕ) → eqb kind since.greatest_kind ≡ false → good_kind since kind ≡ good_kind before kind
kind_right kind e =
    let other = eqb-false kind 5 e in
    ap (λ (b : Bool). leb 1 kind && b) (same_test _ _ (λ h. le-leb kind 4 (omega (arith, other, leb-true kind 5 h))) (λ h. le-leb kind 5 (omega (arith, leb-true kind 4 h))))

-- modes 1 to 4 do not need check 7
not_needed : (mode : ℕ) → mode_in_range before mode ≡ true → needs mode since.checks ≡ false
unfolding needs
not_needed zero e = clash e
not_needed (suc zero) e = refl
not_needed (suc (suc zero)) e = refl
not_needed (suc (suc (suc zero))) e = refl
not_needed (suc (suc (suc (suc zero)))) e = refl
not_needed (suc (suc (suc (suc (suc n))))) e = absurd (let l = leb-true (suc (suc (suc (suc (suc n))))) 4 (and_right (leb 1 (suc (suc (suc (suc (suc n)))))) _ e) in omega arith)

-- a 0 after a list changes no place of it, nor the lowest failed check
get_or_zero : (o : List ℕ) (i : ℕ) → get_or (o ++ (0 ∷ [])) i 0 ≡ get_or o i 0
get_or_zero [] zero = refl
get_or_zero [] (suc i) = refl
get_or_zero (v ∷ o) zero = refl
get_or_zero (v ∷ o) (suc i) = get_or_zero o i

lowest_zero : (c : ℕ) (o : List ℕ) → lowest_from c (o ++ (0 ∷ [])) ≡ lowest_from c o
unfolding lowest_from
lowest_zero c [] = refl
lowest_zero c (v ∷ o) = rw (lowest_zero (suc c) o)

-- nor does it stand in the way where outcomes 3 and 4 are set
two_set : (o : List ℕ) (v w : ℕ) → length o ≡ before.checks → set (set (o ++ (0 ∷ [])) 2 v) 3 w ≡ set (set o 2 v) 3 w ++ (0 ∷ [])
two_set o v w e = rw (set-append_left o (0 ∷ []) 2 v (omega (arith, e))) (set-append_left (set o 2 v) (0 ∷ []) 3 w (omega (arith, e, length-set o 2 v)))

length_two : (o : List ℕ) (v w : ℕ) → length (set (set o 2 v) 3 w) ≡ length o
length_two o v w = rw (length-set, length-set)

-- a place with a number that is not 0 lies in the list
inside : (o : List ℕ) (i : ℕ) → get_or o i 0 ≡ awaited → i < length o
inside [] i e = absurd (omega (arith, e))
inside (v ∷ o) zero e = omega arith
inside (v ∷ o) (suc i) e = suc-le-suc (inside o i e)

-- ---- the number of a call

-- what is known of a reading before, in modes 1 to 4, after every list of calls
record Old (r : Reading) : Type 0 where
  figures : r.figures ≡ before
  mode : mode_in_range before r.opening.mode ≡ true
  counted : length r.outcomes ≡ before.checks

-- a verdict of the new kind is refused, whatever conditions are added to those of a verdict
new_refused : (mode step yes_no : ℕ) (o fascn : List ℕ) (us : List (ℕ × Bool)) → mode_in_range before mode ≡ true → numbered us ≡ true
    → refusal_of (verdict_conditions since mode step o since.greatest_kind yes_no fascn ++ us) ≡ 0 → ⊥
unfolding check_served
new_refused mode step yes_no o fascn us m n e =
    let c = none_fit (verdict_conditions since mode step o since.greatest_kind yes_no fascn ++ us) n e in
    clash (sym (not_needed mode m) ∙ not-false (needs mode since.checks) c.1.1.1.1.0)

module _ (r : Reading) (old : Old r) where
  -- a call that is not of the new kind has the number that it had
  same_number : (t : Arguments) → of_new_kind t ≡ false → refused_by (reading_since r) (arguments_since t) ≡ refused_by r t
  unfolding command_refused answer_refused verdict_refused preview_refused
  same_number (Arguments.command room) e = refl
  same_number (Arguments.answer size bytes cancelled) e = rw (old.figures, (size_right size).0)
  same_number (Arguments.verdict kind yes_no fascn) e = rw (old.figures, kind_right kind e, get_or_zero)
  same_number (Arguments.field size tag) e = refl
  same_number (Arguments.stamp room) e = rw (old.figures, room_right room)
  same_number (Arguments.preview kind yes_no fascn room) e = rw (old.figures, kind_right kind e, get_or_zero, room_right room)

  -- a call of the new kind: 9 or 10 before, and never 0 since
  new_number : (t : Arguments) → of_new_kind t ≡ true → (refused_by r t ≡ cond (not (eqb r.progress.step 3)) 9 10) × (refused_by (reading_since r) (arguments_since t) ≡ 0 → ⊥)
  unfolding verdict_refused preview_refused
  new_number (Arguments.command room) e = clash e
  new_number (Arguments.answer size bytes cancelled) e = clash e
  new_number (Arguments.verdict kind yes_no fascn) e = rw (eqb-true kind 5 e) (rw old.figures, new_refused r.opening.mode r.progress.step yes_no (r.outcomes ++ (0 ∷ [])) fascn [] old.mode refl)
  new_number (Arguments.field size tag) e = clash e
  new_number (Arguments.stamp room) e = clash e
  new_number (Arguments.preview kind yes_no fascn room) e = rw (eqb-true kind 5 e) (rw old.figures, new_refused r.opening.mode r.progress.step yes_no (r.outcomes ++ (0 ∷ [])) fascn (stamp_conditions since (suc room)) old.mode refl)

  -- so that a call is accepted since where it was accepted before
  same_accepted : (t : Arguments) → eqb (refused_by (reading_since r) (arguments_since t)) 0 ≡ eqb (refused_by r t) 0
  same_accepted t = go (of_new_kind t) refl
    where
      go : (b : Bool) → of_new_kind t ≡ b → eqb (refused_by (reading_since r) (arguments_since t)) 0 ≡ eqb (refused_by r t) 0
      go true e = let n = new_number t e in ne_eqb _ 0 n.1 ∙ sym (ap (λ (k : ℕ). eqb k 0) n.0 ∙ either (λ (k : ℕ). eqb k 0 ≡ false) (not (eqb r.progress.step 3)) {x = 9} {y = 10} refl refl)
      go false e = ap (λ (k : ℕ). eqb k 0) (same_number t e)

-- ---- the reading of a call, and of a list

-- a reading since and a reading before that go together
record Alike (q r : Reading) : Type 0 where
  same : q ≡ reading_since r
  old : Old r

module _ (r : Reading) (old : Old r) where
  -- progress, outcomes and what was found may change, in both
  changed : (p : Progress) (u o : List ℕ) (f : Found) → u ≡ o ++ (0 ∷ []) → length o ≡ length r.outcomes
      → Alike (record { figures = since; opening = r.opening; progress = p; outcomes = u; found = f }) (record { figures = r.figures; opening = r.opening; progress = p; outcomes = o; found = f })
  changed p u o f e l =
      record { same = ap (λ (x : List ℕ). record { figures = since; opening = r.opening; progress = p; outcomes = x; found = f }) e; old = record { figures = old.figures; mode = old.mode; counted = l ∙ old.counted } }

  -- the rules of an answer, from the last to the first; then every call
  judged_alike : (joined cancelled : List ℕ) → Alike (judged (reading_since r) joined cancelled) (judged r joined cancelled)
  unfolding judged good_end
  judged_alike joined cancelled =
      by_test Alike _ _ _ _ (eqb (joined_cause r.opening.mode r.progress.step joined) 0)
      (λ _. by_test Alike _ _ _ _ (eqb r.progress.step 0) (λ _. changed _ _ _ _ refl refl)
      (λ _. by_test Alike _ _ _ _ (eqb r.progress.step 1) (λ _. changed _ _ _ _ (two_set r.outcomes _ _ old.counted) (length_two r.outcomes _ _)) (λ _. changed _ _ _ _ refl refl)))
      (λ _. changed _ _ _ _ refl refl)

  appended_alike : (status : Status) (joined cancelled : List ℕ) → Alike (appended status (reading_since r) joined cancelled) (appended status r joined cancelled)
  appended_alike Done joined cancelled = judged_alike joined cancelled
  appended_alike (More second) joined cancelled = changed _ _ _ _ refl refl
  appended_alike (Again last) joined cancelled = changed _ _ _ _ refl refl
  appended_alike Other joined cancelled = judged_alike joined cancelled

  accepted_alike : (t : Arguments) → refused_by r t ≡ 0 → Alike (accepted (reading_since r) (arguments_since t)) (accepted r t)
  unfolding answer_taken verdict_refused
  accepted_alike (Arguments.command room) e = changed _ _ _ _ refl refl
  accepted_alike (Arguments.answer size bytes cancelled) e =
      by_test Alike _ _ _ _ (eqb (cause_by r.progress (capacity r.opening.mode r.progress.step) (status_of (status_bytes bytes)) (data_of bytes)) 0)
      (λ _. appended_alike (status_of (status_bytes bytes)) (r.progress.joined ++ data_of bytes) cancelled) (λ _. changed _ _ _ _ refl refl)
  accepted_alike (Arguments.verdict kind yes_no fascn) e =
      let c = none_fit (verdict_conditions r.figures r.opening.mode r.progress.step r.outcomes kind yes_no fascn) refl e in
      let waits = eqb-true (outcome_of r.outcomes (check_served kind)) awaited (not-false _ c.1.1.1.1.1.0) in
      let p = check_served kind - 1 in
      changed _ _ _ _ (set-append_left r.outcomes (0 ∷ []) p _ (inside r.outcomes p waits)) (length-set r.outcomes p _)
  accepted_alike (Arguments.field size tag) e = changed _ _ _ _ refl refl
  accepted_alike (Arguments.stamp room) e = changed _ _ _ _ refl refl
  accepted_alike (Arguments.preview kind yes_no fascn room) e = changed _ _ _ _ refl refl

  read_alike : (t : Arguments) → Alike (read (reading_since r) (arguments_since t)) (read r t)
  unfolding read
  read_alike t = rw (same_accepted r old t) (by_test Alike _ _ _ _ (eqb (refused_by r t) 0) (λ e. accepted_alike t (eqb-true _ 0 e)) (λ _. changed _ _ _ _ refl refl))

-- every list, and how it begins
list_alike : (ts : List Arguments) {q r : Reading} → Alike q r → Alike (reading q (map arguments_since ts)) (reading r ts)
list_alike [] w = w
list_alike (t ∷ ts) {q} {r} w = list_alike ts (subst (λ (x : Reading). Alike (read x (arguments_since t)) (read r t)) (sym w.same) (read_alike r w.old t))

begins_alike : (o : Opening) → mode_in_range before o.mode ≡ true → Alike (begins since o) (begins before o)
unfolding needed_outcomes needed_at list_of
begins_alike o m = record { same = rw (not_needed o.mode m); old = record { figures = refl; mode = m; counted = refl } }

-- ---- the standing and the stamp

-- outcome 7 is not among those that are needed
passed-zero : (mode : ℕ) (o : List ℕ) → mode_in_range before mode ≡ true → length o ≡ before.checks → all_passed mode (o ++ (0 ∷ [])) ≡ all_passed mode o
unfolding all_passed all
passed-zero mode o m e =
    let passes : List ℕ → ℕ → Bool = λ u i. not (needs mode (i + 1)) || eqb (get_or u i 0) passed in
    let last : passes (o ++ (0 ∷ [])) (length o) ≡ true = rw (e, not_needed mode m) in
    let firsts : all (length o) (passes (o ++ (0 ∷ []))) ≡ all (length o) (passes o) = all_ext (length o) (λ i h. ap (λ (v : ℕ). not (needs mode (i + 1)) || eqb v passed) (get_or_zero o i)) in
    ap (λ (n : ℕ). all n (passes (o ++ (0 ∷ [])))) (length-append o (0 ∷ []) ∙ add-one (length o)) ∙ ap₂ ◌&&◌ firsts last ∙ and-true (all_passed mode o)

standing-zero : (f : Finding) → mode_in_range before f.mode ≡ true → length f.outcomes ≡ before.checks → standing (finding_since f) ≡ standing f
unfolding standing_of
standing-zero f m e = rw (passed-zero f.mode f.outcomes m e)

-- the stamp is cut after the sixth outcome
layout_zero : (head o fascn : List ℕ) (date expiry : ℕ) → length head ≡ head_size → length o ≡ before.checks → stamp_layout head (o ++ (0 ∷ [])) date fascn expiry ≡ stamp_since (stamp_layout head o date fascn expiry)
unfolding stamp_layout
layout_zero head o fascn date expiry h e =
    let n = head_size + before.checks in
    let front : length (head ++ o) ≡ n = length-append head o ∙ ap₂ ◌+◌ h e in
    let rest = four_bytes date ++ (fascn ++ four_bytes expiry) in
    let parts : stamp_layout head o date fascn expiry ≡ (head ++ o) ++ rest = simp append_assoc in
    rw (parts, take_at (head ++ o) rest n front, drop_at (head ++ o) rest n front) (simp append_assoc)

stamp_zero : (f : Finding) → mode_in_range before f.mode ≡ true → length f.outcomes ≡ before.checks → stamp_of (finding_since f) ≡ stamp_since (stamp_of f)
unfolding stamp_of
stamp_zero f m e = rw (standing-zero f m e) (layout_zero _ f.outcomes _ _ _ refl e)

-- ---- every list of calls

module _ (o : Opening) (m : mode_in_range before o.mode ≡ true) (ts : List Arguments) where
  alike : Alike (reading (begins since o) (map arguments_since ts)) (reading (begins before o) ts)
  alike = list_alike ts (begins_alike o m)

  -- The reading since is the reading before, with outcome 7, which is 0.
  pub as_before : reading (begins since o) (map arguments_since ts) ≡ reading_since (reading (begins before o) ts)
  as_before = alike.same

  -- So is the finding: the cause too is the same.
  pub finding_as_before : finding (reading (begins since o) (map arguments_since ts)) ≡ finding_since (finding (reading (begins before o) ts))
  unfolding finding cause_of
  finding_as_before = rw (as_before, lowest_zero)

  -- It has the same standing, and the stamp is that of before with 00 put in after the sixth outcome.
  pub standing_as_before : standing (finding (reading (begins since o) (map arguments_since ts))) ≡ standing (finding (reading (begins before o) ts))
  unfolding finding
  standing_as_before = ap standing finding_as_before ∙ standing-zero (finding (reading (begins before o) ts)) alike.old.mode alike.old.counted

  pub stamp_as_before : stamp_of (finding (reading (begins since o) (map arguments_since ts))) ≡ stamp_since (stamp_of (finding (reading (begins before o) ts)))
  unfolding finding
  stamp_as_before = ap stamp_of finding_as_before ∙ stamp_zero (finding (reading (begins before o) ts)) alike.old.mode alike.old.counted

  -- Each call that follows has the number that it had; a verdict or preview of kind 5 is refused in both, by 9 or 10 before.
  pub number_as_before : (t : Arguments) → of_new_kind t ≡ false → refused_by (reading (begins since o) (map arguments_since ts)) (arguments_since t) ≡ refused_by (reading (begins before o) ts) t
  number_as_before t e = rw (as_before) (same_number _ alike.old t e)

  pub new_as_before : (t : Arguments) → of_new_kind t ≡ true
      → (refused_by (reading (begins before o) ts) t ≡ cond (not (eqb (reading (begins before o) ts).progress.step 3)) 9 10) × (refused_by (reading (begins since o) (map arguments_since ts)) (arguments_since t) ≡ 0 → ⊥)
  new_as_before t e = rw (as_before) (new_number _ alike.old t e)

  -- A field call gives what it gave.
  pub field_as_before : (size tag : ℕ) → field_for (reading (begins since o) (map arguments_since ts)) (size_since size) tag ≡ field_for (reading (begins before o) ts) size tag
  unfolding field_in
  field_as_before size tag = rw (as_before, alike.old.figures, (size_right size).0)
