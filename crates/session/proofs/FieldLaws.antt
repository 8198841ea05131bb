-- The field call: the part that the session keeps of a field holds the field's value in its step's joined data.
-- Assumes nothing.
use mathlib.Core.Path.{◌≡◌, refl, sym, ap, ◌∙◌}
use mathlib.Core.Bool.{Bool, true, false, cond, not, ◌||◌, or-false}
use mathlib.Core.Option.{Option}
use mathlib.Core.List.{List, [], ◌++◌}
use Prim.Native.Nat.{ℕ}
use native.Mathlib.Omega.{arith}
use lib.Dec.{eqb}
use lib.ListN.{length, drop, take-append-drop, length-drop}
use lib.Seq.{take-nil, drop-nil, length-take-le}
use borrow.Author.Tests.{eq-eqb, lt-ltb, eqb-true}
use Rattle.card.specs.Object.{biometric_tag, empty, rows_of, part_in, bytes_at, field_part, field_value}
use Rattle.card.specs.declared.object.Kind.{Kind}
use Rattle.card.specs.declared.object.Part.{Part}
use Rattle.card.proofs.ObjectLaws.{part_inside_lem, field_after}
use Rattle.common.specs.Lists.{is_in}
use Rattle.session.specs.Tables.{Figures, has_step2, kind_at, base_of, object_size, step1_tags, step2_tags, step_of_tag, step_read}
use Rattle.session.specs.Reading.{StepOne, Found, Reading, joined_one, joined_two, joined_at, field_in, field_for}
use Rattle.session.specs.Operation.{no_parts, part_for, field_of}
use Rattle.session.proofs.Invariant.{parts_one, part_two, session_of, Held, OneHeld, TwoHeld, Stage, Invariant}
use Rattle.common.proofs.TestLaws.{clash}
use Rattle.session.proofs.InRangeLaws.{none_parts, in_range_lem}

-- ---- a field that is not read

-- among empty parts the part of any field is empty
part_none : (k : Kind) (tag : ℕ) → (part_in (rows_of k) no_parts tag).len ≡ 0
part_none k tag =
    let inside = part_inside_lem k [] tag in
    let same : (field_part k tag []).len ≡ (part_in (rows_of k) no_parts tag).len = ap (λ (ps : List Part). (part_in (rows_of k) ps tag).len) (none_parts k) in
    omega (arith, inside, same)

-- no bytes have an empty part
bytes_none : (p : Part) → bytes_at [] p ≡ []
unfolding bytes_at
bytes_none p = rw (drop-nil, take-nil)

value_none : (k : Kind) (tag : ℕ) → field_value k tag [] ≡ []
unfolding field_value
value_none k tag = bytes_none (field_part k tag [])

either : (b : Bool) (xs : List ℕ) → xs ≡ [] → cond b [] xs ≡ []
either true xs e = refl
either false xs e = e

unread : (k : Kind) (tag : ℕ) (xs : List ℕ) (b : Bool) → cond b [] (bytes_at xs (part_in (rows_of k) no_parts tag)) ≡ field_value k tag []
unfolding bytes_at
unread k tag xs b = rw (value_none k tag) (either b _ (rw (part_none k tag)))

-- ---- a field that is read

abbrev is_some : {A : Type 0} → Option A → Bool
is_some Option.none = false
is_some (Option.some x) = true

value_kept : {mode : ℕ} (k : Kind) (tag step : ℕ) (xs m : List ℕ) → Held mode step xs m → bytes_at (drop (base_of step) m) (field_part k tag xs) ≡ field_value k tag xs
value_kept k tag step xs m kept =
    let base = base_of step in
    let rest = drop (length xs) (drop base m) in
    let whole : xs ++ rest ≡ drop base m = ap (λ (l : List ℕ). l ++ rest) (sym kept.held) ∙ take-append-drop (length xs) (drop base m) in
    ap (λ (l : List ℕ). bytes_at l (field_part k tag xs)) (sym whole) ∙ field_after k tag xs rest

-- of data without the field, the field's part is empty
part-empty : (k : Kind) (tag : ℕ) (xs : List ℕ) → field_value k tag xs ≡ [] → (field_part k tag xs).len ≡ 0
unfolding field_value bytes_at
part-empty k tag xs e =
    let p = field_part k tag xs in
    let inside = part_inside_lem k xs tag in
    sym (length-take-le p.len (drop p.start xs) (omega (arith, inside, length-drop p.start xs))) ∙ ap length e

-- an empty part has no bytes, wherever it lies
no_bytes : (p : Part) (xs : List ℕ) → p.len ≡ 0 → bytes_at xs p ≡ []
unfolding bytes_at
no_bytes p xs e = rw e

-- ---- what is read by a step

-- step 1 once its data is kept, and step 2
step1_read : (mode step : ℕ) (f : Found) (one : StepOne) → Stage step f → f.step1 ≡ Option.some one → step_read mode step 1 ≡ true
step1_read mode step f one (Stage.early l n) e = clash (sym (ap (λ (x : Found). is_some x.step1) n) ∙ ap is_some e)
step1_read mode step f one (Stage.between l x n) e = rw (lt-ltb 1 step (omega arith))
step1_read mode step f one (Stage.late l x n) e = rw (lt-ltb 1 step (omega arith))

step2_read : (mode step : ℕ) (f : Found) (xs : List ℕ) → Stage step f → f.step2 ≡ Option.some xs → has_step2 mode ≡ true → step_read mode step 2 ≡ true
step2_read mode step f xs (Stage.early l n) e h = clash (sym (ap (λ (x : Found). is_some x.step2) n) ∙ ap is_some e)
step2_read mode step f xs (Stage.between l x n) e h = clash (sym (ap (λ (x : Found). is_some x.step2) n) ∙ ap is_some e)
step2_read mode step f xs (Stage.late l x n) e h = rw (lt-ltb 2 step (omega arith), h)

-- ---- the call

-- the tests of the call, where the step of the tag is known
abbrev tested : ℕ → ℕ → List ℕ → ℕ → Bool
tested mode step object k = not (eqb (length object) object_size) || (eqb k 0 || not (step_read mode step k))

module _ (mode step : ℕ) (m : List ℕ) where
  one_value : (tag : ℕ) (f : Found) (one : Option StepOne) → Stage step f → f.step1 ≡ one → OneHeld mode one m
      → cond (tested mode step m 1) [] (bytes_at (drop (base_of 1) m) (part_in (rows_of (kind_at mode 1)) (parts_one mode one) tag)) ≡ field_value (kind_at mode 1) tag (joined_one one)
  one_value tag f Option.none s e k = unread (kind_at mode 1) tag (drop (base_of 1) m) (tested mode step m 1)
  one_value tag f (Option.some x) s e k = rw (eq-eqb _ _ k.1.whole, step1_read mode step f x s e) (value_kept (kind_at mode 1) tag 1 x.joined m k.1)

  two_value : (f : Found) (two : Option (List ℕ)) → Stage step f → f.step2 ≡ two → TwoHeld mode two m
      → cond (tested mode step m 2) [] (bytes_at (drop (base_of 2) m) (part_two mode two)) ≡ field_value (kind_at mode 2) biometric_tag (joined_two two)
  two_value f Option.none s e k = rw (value_none (kind_at mode 2) biometric_tag) (either (tested mode step m 2) _ (no_bytes empty (drop (base_of 2) m) refl))
  two_value f (Option.some xs) s e k = rw (eq-eqb _ _ k.1.whole, step2_read mode step f xs s e k.0) (value_kept (kind_at mode 2) biometric_tag 2 xs m k.1)

-- the step of a tag by two tests; of step 2's object BC alone can be asked for
abbrev step : Bool → Bool → ℕ
step x y = cond x 1 (cond y 2 0)

only_bc : (tag : ℕ) → is_in tag step2_tags ≡ true → tag ≡ biometric_tag
only_bc tag e = eqb-true tag biometric_tag (rw or-false at e)

no_tag : (b : Bool) (xs : List ℕ) → cond (b || true) [] xs ≡ []
no_tag true xs = refl
no_tag false xs = refl

pub field_is : (r : Reading) (m : List ℕ) (tag : ℕ) → Invariant r m → field_of (session_of r) m tag ≡ field_in r tag
unfolding field_of field_in step_of_tag
field_is r m tag i = rw (in_range_lem r m i) (by_step (is_in tag step1_tags) (is_in tag step2_tags) refl)
  where
    by_step : (x y : Bool) → is_in tag step2_tags ≡ y
        → cond (tested r.opening.mode r.progress.step m (step x y)) [] (bytes_at (drop (base_of (step x y)) m) (part_for (session_of r) (step x y) tag))
        ≡ cond (eqb (step x y) 0) [] (field_value (kind_at r.opening.mode (step x y)) tag (joined_at r.found (step x y)))
    by_step true y e = one_value r.opening.mode r.progress.step m tag r.found r.found.step1 i.stage refl i.one
    by_step false true e = rw (only_bc tag e) (two_value r.opening.mode r.progress.step m r.found r.found.step2 i.stage refl i.two)
    by_step false false e = no_tag (not (eqb (length m) object_size)) _

-- a part of a field that the reading has not is empty
one_empty : (mode tag : ℕ) (one : Option StepOne) → field_value (kind_at mode 1) tag (joined_one one) ≡ [] → (part_in (rows_of (kind_at mode 1)) (parts_one mode one) tag).len ≡ 0
one_empty mode tag Option.none e = part_none (kind_at mode 1) tag
one_empty mode tag (Option.some x) e = part-empty (kind_at mode 1) tag x.joined e

two_empty : (mode : ℕ) (two : Option (List ℕ)) → field_value (kind_at mode 2) biometric_tag (joined_two two) ≡ [] → (part_two mode two).len ≡ 0
two_empty mode Option.none e = refl
two_empty mode (Option.some xs) e = part-empty (kind_at mode 2) biometric_tag xs e

-- such a field is the empty part of any buffer
none_read : (r : Reading) (m object : List ℕ) (tag : ℕ) → Invariant r m → field_in r tag ≡ [] → field_of (session_of r) object tag ≡ []
unfolding field_of field_in step_of_tag
none_read r m object tag i = rw (in_range_lem r m i) (by_step (is_in tag step1_tags) (is_in tag step2_tags) refl)
  where
    by_step : (x y : Bool) → is_in tag step2_tags ≡ y → cond (eqb (step x y) 0) [] (field_value (kind_at r.opening.mode (step x y)) tag (joined_at r.found (step x y))) ≡ []
        → cond (tested r.opening.mode r.progress.step object (step x y)) [] (bytes_at (drop (base_of (step x y)) object) (part_for (session_of r) (step x y) tag)) ≡ []
    by_step true y t e = either (tested r.opening.mode r.progress.step object 1) _ (no_bytes _ (drop (base_of 1) object) (one_empty r.opening.mode tag r.found.step1 e))
    by_step false true t e = either (tested r.opening.mode r.progress.step object 2) _ (no_bytes _ (drop (base_of 2) object) (two_empty r.opening.mode r.found.step2 (rw (only_bc tag t) at e)))
    by_step false false t e = no_tag (not (eqb (length object) object_size)) _

-- and so is every field of a buffer of another size
other_size : (r : Reading) (m object : List ℕ) (tag : ℕ) → Invariant r m → eqb (length object) object_size ≡ false → field_of (session_of r) object tag ≡ []
unfolding field_of
other_size r m object tag i e = rw (in_range_lem r m i, e)

pub field_none : (r : Reading) (m object : List ℕ) (tag : ℕ) → Invariant r m → field_for r (length object) tag ≡ [] → field_of (session_of r) object tag ≡ []
field_none r m object tag i e =
    by_size (eqb (length object) object_size) refl (ap (λ (f : Figures). cond (eqb (length object) f.object_size) (field_in r tag) []) (sym i.figures) ∙ e)
  where
    by_size : (b : Bool) → eqb (length object) object_size ≡ b → cond b (field_in r tag) [] ≡ [] → field_of (session_of r) object tag ≡ []
    by_size true e z = none_read r m object tag i z
    by_size false e z = other_size r m object tag i e
