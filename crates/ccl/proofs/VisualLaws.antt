-- A number looked up in a visual list: yes exactly where some line has it; a malformed line anywhere refuses, by the
-- number of the first; an entry that is no CIN is refused before that; leading zeros make no difference. Each is said
-- of the definition, and of the answer that the code gives.
-- Assumes nothing.
use mathlib.Core.Path.{◌≡◌, refl, sym, ap, ◌∙◌}
use mathlib.Core.Bool.{Bool, true, false, cond, not}
use mathlib.Core.List.{List, [], ◌∷◌, ◌++◌, map}
use mathlib.Core.Logic.{◌↔◌}
use mathlib.Mathlib.Data.Bool.Basic.{eq-false_of_not-eq-true}
use Rattle.std.specs.Prelude.{Result, Ok, Err}
use Prim.Native.Nat.{ℕ, zero, suc, ◌+◌, ◌-◌, ◌^◌, ◌≤◌, ◌<◌}
use native.Mathlib.Nat.{not-suc-le-zero, le_of_suc-le-suc}
use native.Mathlib.Omega.{arith}
use borrow.Author.Tests.{eqb-false, ne_eqb}
use lib.Dec.{eqb}
use lib.ListN.{length, get_or, replicate, length-map}
use Rattle.common.specs.Lists.{is_in}
use Rattle.common.specs.Decimal.{digits_of}
use Rattle.common.proofs.TestLaws.{clash}
use Rattle.common.proofs.MemberLaws.{in_at, in_where}
use Rattle.common.proofs.PassingLaws.{passing_is, passing-all, passing_stop}
use Rattle.ccl.specs.Cin.{longest_cin, cin_digits, cin_of}
use Rattle.ccl.specs.Visual.{visual_text_of, text_lines, visual_digits, good_visual, good_visuals, well_visual, cins_in, lookup_of, typed_of, lookup_answer, typed_answer}
use Rattle.ccl.specs.declared.visual.MalformedLine.{MalformedLine}
use Rattle.ccl.specs.declared.visual.LookUpError.{LookUpError}
use Rattle.ccl.specs.declared.visual.LookUpError.TheVariants as look-up-errors
use Rattle.ccl.proofs.CinLaws.{cin_digits_lem, zeros_front}
use Rattle.ccl.proofs.VisualTextLaws.{Each, Numbers, digits_of_all, good_at, well_good, digits-read, numbers-read}

-- ---- a line that has the number

abbrev pub SomeLine : ℕ → List ℕ → Type 0
SomeLine cin text = (i : ℕ) × (i < length (text_lines text)) × (cin_of (visual_digits (get_or (text_lines text) i [])) ≡ cin)

cin_at : (ls : List (List ℕ)) (i : ℕ) → i < length ls → get_or (map (λ l. cin_of (visual_digits l)) ls) i 0 ≡ cin_of (visual_digits (get_or ls i []))
cin_at [] i h = absurd (not-suc-le-zero h)
cin_at (l ∷ ls) zero h = refl
cin_at (l ∷ ls) (suc i) h = cin_at ls i (le_of_suc-le-suc h)

pub in_line : (cin : ℕ) (text : List ℕ) → (is_in cin (cins_in text) ≡ true) ↔ SomeLine cin text
unfolding cins_in
in_line cin text =
    let ls = text_lines text in
    let size = length-map ls (λ l. cin_of (visual_digits l)) in (
      λ e. let p = in_where cin (cins_in text) e in let h : p.0 < length ls = rw size at p.1 in (p.0, h, sym (cin_at ls p.0 h) ∙ p.2),
      λ p. in_at cin (cins_in text) (p.0, rw size p.1, cin_at ls p.0 p.1 ∙ p.2),
    )

-- ---- the first malformed line

-- Line n of a text, counted from 1, is there and malformed, and every line before it is good.
pub record FirstMalformedVisual (text : List ℕ) (n : ℕ) : Type 0 where
  pub counted : 0 < n
  pub there : n - 1 < length (text_lines text)
  pub before : (i : ℕ) → i + 1 < n → good_visual (get_or (text_lines text) i []) ≡ true
  pub malformed : good_visual (get_or (text_lines text) (n - 1) []) ≡ false

module _ (text : List ℕ) where
  -- a text that is not well formed has one
  pub first_bad : well_visual text ≡ false → FirstMalformedVisual text (good_visuals text + 1)
  unfolding well_visual good_visuals
  first_bad e =
      let n = length (text_lines text) in
      let p = passing_is n (λ i. good_visual (get_or (text_lines text) i [])) in
      let other = eqb-false (good_visuals text) n e in
      let one : good_visuals text + 1 - 1 ≡ good_visuals text = omega arith in
      let h : good_visuals text < n = omega (arith, p.most) in
      record { counted = omega arith; there = rw one h; before = λ i l. p.each i (omega arith); malformed = rw one (p.next h) }

  -- and one only
  pub bad_first : (n : ℕ) → FirstMalformedVisual text n → (well_visual text ≡ false) × (good_visuals text + 1 ≡ n)
  unfolding well_visual good_visuals
  bad_first n b =
      let f : ℕ → Bool = λ i. good_visual (get_or (text_lines text) i []) in
      let counted = b.counted in
      let e = passing_stop f (n - 1) (length (text_lines text)) b.there (passing-all (n - 1) f (λ i h. b.before i (omega arith))) b.malformed in
      (rw e (ne_eqb (n - 1) (length (text_lines text)) (λ q. omega (arith, b.there))), rw e (omega arith))

  -- a malformed line anywhere, also after a line that has the number
  pub bad_anywhere : (i : ℕ) → i < length (text_lines text) → good_visual (get_or (text_lines text) i []) ≡ false → well_visual text ≡ false
  bad_anywhere i h e = by (well_visual text) refl
    where
      by : (b : Bool) → well_visual text ≡ b → well_visual text ≡ false
      by true q = clash (sym e ∙ good_at (text_lines text) ((well_good text).0 q) i h)
      by false q = q

-- ---- a number looked up

-- the answer by two tests and a line's number, and what each answer says of them
abbrev answer_by : Bool → Bool → ℕ → ℕ × ℕ
answer_by well found n = cond well (0, cond found 1 0) (24, n)

yes_of : (b c : Bool) (n : ℕ) → answer_by b c n ≡ (0, 1) → (b ≡ true) × (c ≡ true)
yes_of true true n e = (refl, refl)
yes_of true false n e = absurd (omega (arith, ap (λ (x : ℕ × ℕ). x.1) e))
yes_of false c n e = absurd (omega (arith, ap (λ (x : ℕ × ℕ). x.0) e))

no_of : (b c : Bool) (n : ℕ) → answer_by b c n ≡ (0, 0) → (b ≡ true) × (c ≡ false)
no_of true true n e = absurd (omega (arith, ap (λ (x : ℕ × ℕ). x.1) e))
no_of true false n e = (refl, refl)
no_of false c n e = absurd (omega (arith, ap (λ (x : ℕ × ℕ). x.0) e))

malformed_of : (b c : Bool) (n k : ℕ) → answer_by b c n ≡ (24, k) → (b ≡ false) × (n ≡ k)
malformed_of true c n k e = absurd (omega (arith, ap (λ (x : ℕ × ℕ). x.0) e))
malformed_of false c n k e = (refl, ap (λ (x : ℕ × ℕ). x.1) e)

not_entry : (b c : Bool) (n : ℕ) → (answer_by b c n).0 ≡ 23 → ⊥
not_entry true c n e = omega (arith, e)
not_entry false c n e = omega (arith, e)

module _ (cin : ℕ) (text : List ℕ) where
  -- yes: some line has the number
  pub lookup_yes : (lookup_of cin text ≡ (0, 1)) ↔ ((well_visual text ≡ true) × SomeLine cin text)
  unfolding lookup_of
  lookup_yes = (
    λ e. let p = yes_of (well_visual text) (is_in cin (cins_in text)) (good_visuals text + 1) e in (p.0, (in_line cin text).0 p.1),
    λ p. rw (p.0, (in_line cin text).1 p.1),
  )

  -- no: none has
  pub lookup_no : (lookup_of cin text ≡ (0, 0)) ↔ ((well_visual text ≡ true) × (SomeLine cin text → ⊥))
  unfolding lookup_of
  lookup_no = (
    λ e.
        let p = no_of (well_visual text) (is_in cin (cins_in text)) (good_visuals text + 1) e in
        (p.0, λ s. clash (sym p.1 ∙ (in_line cin text).1 s)),
    λ p. rw (p.0, eq-false_of_not-eq-true (λ q. p.1 ((in_line cin text).0 q))),
  )

  -- 24 and n: line n is the first malformed line
  pub lookup_malformed : (n : ℕ) → (lookup_of cin text ≡ (24, n)) ↔ FirstMalformedVisual text n
  unfolding lookup_of
  lookup_malformed n = (
    λ e.
        let p = malformed_of (well_visual text) (is_in cin (cins_in text)) (good_visuals text + 1) n e in
        rw p.1 at (first_bad text p.0),
    λ p. let b = bad_first text n p in rw (b.0, b.1),
  )

  -- it is never 23
  lookup_other : (lookup_of cin text).0 ≡ 23 → ⊥
  unfolding lookup_of
  lookup_other = not_entry (well_visual text) (is_in cin (cins_in text)) (good_visuals text + 1)

-- ---- the number typed

-- an answer other than 23 is that of the look-up
past_entry : (a : Bool) (x y : ℕ × ℕ) → (y.0 ≡ 23 → ⊥) → cond a x (23, 0) ≡ y → (a ≡ true) × (x ≡ y)
past_entry true x y h e = (refl, e)
past_entry false x y h e = absurd (h (ap (λ (z : ℕ × ℕ). z.0) (sym e)))

-- and 23 is not
not_past : (a : Bool) (x : ℕ × ℕ) → (x.0 ≡ 23 → ⊥) → (cond a x (23, 0)).0 ≡ 23 → a ≡ false
not_past true x h e = absurd (h e)
not_past false x h e = refl

module _ (typed text : List ℕ) where
  -- yes: some line's number is that of the entry
  pub yes_where : (typed_of typed text ≡ (0, 1)) ↔ ((cin_digits typed ≡ true) × (well_visual text ≡ true) × SomeLine (cin_of typed) text)
  unfolding typed_of
  yes_where = (
    λ e.
        let p = past_entry (cin_digits typed) (lookup_of (cin_of typed) text) (0, 1) (λ h. omega (arith, h)) e in
        let q = (lookup_yes (cin_of typed) text).0 p.1 in
        (p.0, q.0, q.1),
    λ p. rw p.0 ((lookup_yes (cin_of typed) text).1 (p.1, p.2)),
  )

  -- no: none is
  pub no_where : (typed_of typed text ≡ (0, 0)) ↔ ((cin_digits typed ≡ true) × (well_visual text ≡ true) × (SomeLine (cin_of typed) text → ⊥))
  unfolding typed_of
  no_where = (
    λ e.
        let p = past_entry (cin_digits typed) (lookup_of (cin_of typed) text) (0, 0) (λ h. omega (arith, h)) e in
        let q = (lookup_no (cin_of typed) text).0 p.1 in
        (p.0, q.0, q.1),
    λ p. rw p.0 ((lookup_no (cin_of typed) text).1 (p.1, p.2)),
  )

  -- 24 and n: the entry is a CIN, and line n is the first malformed line
  pub malformed_where : (n : ℕ) → (typed_of typed text ≡ (24, n)) ↔ ((cin_digits typed ≡ true) × FirstMalformedVisual text n)
  unfolding typed_of
  malformed_where n = (
    λ e.
        let p = past_entry (cin_digits typed) (lookup_of (cin_of typed) text) (24, n) (λ h. omega (arith, h)) e in
        (p.0, (lookup_malformed (cin_of typed) text n).0 p.1),
    λ p. rw p.0 ((lookup_malformed (cin_of typed) text n).1 p.1),
  )

  -- 23: the entry is no CIN, whatever the text is
  pub entry_where : ((typed_of typed text).0 ≡ 23) ↔ (cin_digits typed ≡ false)
  unfolding typed_of
  entry_where = (not_past (cin_digits typed) (lookup_of (cin_of typed) text) (lookup_other (cin_of typed) text), λ e. rw e)

-- ---- leading zeros

-- entries with the same number get the same answer
pub same_entry : (a b text : List ℕ) → cin_digits a ≡ true → cin_digits b ≡ true → cin_of a ≡ cin_of b → typed_of a text ≡ typed_of b text
unfolding typed_of
same_entry a b text p q e = rw (p, q, e)

pub zeros_entry : (n : ℕ) (d text : List ℕ) → cin_digits d ≡ true → cin_digits (replicate n 0x30 ++ d) ≡ true → typed_of (replicate n 0x30 ++ d) text ≡ typed_of d text
zeros_entry n d text p q = same_entry (replicate n 0x30 ++ d) d text q p (zeros_front n d)

-- so do texts with the same numbers
pub same_numbers : (typed : List ℕ) (ds es : List (List ℕ)) → Each cin_digits ds → Each cin_digits es → map cin_of ds ≡ map cin_of es → typed_of typed (visual_text_of ds) ≡ typed_of typed (visual_text_of es)
unfolding typed_of lookup_of
same_numbers typed ds es p q e =
    let a = digits-read ds p in
    let b = digits-read es q in
    rw (a.0, a.1, b.0, b.1, e)

-- ---- the same of numbers: yes exactly where the number typed is one of those written

pub yes_numbers : (n x : ℕ) → 1 ≤ n → n ≤ longest_cin → x < 10 ^ n → (xs : List (ℕ × ℕ)) → Numbers xs
    → typed_of (digits_of n x) (visual_text_of (digits_of_all xs)) ≡ (0, cond (is_in x (map (λ p. p.1) xs)) 1 0)
unfolding typed_of lookup_of
yes_numbers n x l h small xs p =
    let d = cin_digits_lem n x l h small in
    let r = numbers-read xs p in
    rw (d.0, d.1, r.0, r.1)

-- ---- the answers that the code gives: r is what a function of crate ccl answers, by its contract

-- the case of a number and what stands beside it: an answer's number says its case
lookup_from : ℕ × ℕ → Result Bool MalformedLine
lookup_from x = cond (eqb x.0 0) (Ok (not (eqb x.1 0))) (Err (record { 0 = x.1 }))

from_lookup : (r : Result Bool MalformedLine) → lookup_from (lookup_answer r) ≡ r
unfolding lookup_from
from_lookup (Ok true) = refl
from_lookup (Ok false) = refl
from_lookup (Err e) = refl

typed_from : ℕ × ℕ → Result Bool LookUpError
typed_from x = cond (eqb x.0 0) (Ok (not (eqb x.1 0))) (Err (cond (eqb x.0 23) look-up-errors.BadEntry (look-up-errors.Malformed x.1)))

from_typed : (r : Result Bool LookUpError) → typed_from (typed_answer r) ≡ r
unfolding typed_from
from_typed (Ok true) = refl
from_typed (Ok false) = refl
from_typed (Err look-up-errors.BadEntry) = refl
from_typed (Err (look-up-errors.Malformed n)) = refl

-- `Cin::listed`
module _ (cin : ℕ) (text : List ℕ) (r : Result Bool MalformedLine) (e : lookup_answer r ≡ lookup_of cin text) where
  case : (q : Result Bool MalformedLine) → lookup_of cin text ≡ lookup_answer q → r ≡ q
  case q p = sym (from_lookup r) ∙ ap lookup_from (e ∙ p) ∙ from_lookup q

  pub lookup_says_listed : (r ≡ Ok true) ↔ ((well_visual text ≡ true) × SomeLine cin text)
  lookup_says_listed = (λ p. (lookup_yes cin text).0 (sym e ∙ ap lookup_answer p), λ q. case (Ok true) ((lookup_yes cin text).1 q))

  pub lookup_says_not_listed : (r ≡ Ok false) ↔ ((well_visual text ≡ true) × (SomeLine cin text → ⊥))
  lookup_says_not_listed = (λ p. (lookup_no cin text).0 (sym e ∙ ap lookup_answer p), λ q. case (Ok false) ((lookup_no cin text).1 q))

  pub lookup_says_malformed : (n : ℕ) → (r ≡ Err (record { 0 = n })) ↔ FirstMalformedVisual text n
  lookup_says_malformed n = (λ p. (lookup_malformed cin text n).0 (sym e ∙ ap lookup_answer p), λ q. case (Err (record { 0 = n })) ((lookup_malformed cin text n).1 q))

-- `look_up`
module _ (typed text : List ℕ) (r : Result Bool LookUpError) (e : typed_answer r ≡ typed_of typed text) where
  typed_case : (q : Result Bool LookUpError) → typed_of typed text ≡ typed_answer q → r ≡ q
  typed_case q p = sym (from_typed r) ∙ ap typed_from (e ∙ p) ∙ from_typed q

  pub says_listed : (r ≡ Ok true) ↔ ((cin_digits typed ≡ true) × (well_visual text ≡ true) × SomeLine (cin_of typed) text)
  says_listed = (λ p. (yes_where typed text).0 (sym e ∙ ap typed_answer p), λ q. typed_case (Ok true) ((yes_where typed text).1 q))

  pub says_not_listed : (r ≡ Ok false) ↔ ((cin_digits typed ≡ true) × (well_visual text ≡ true) × (SomeLine (cin_of typed) text → ⊥))
  says_not_listed = (λ p. (no_where typed text).0 (sym e ∙ ap typed_answer p), λ q. typed_case (Ok false) ((no_where typed text).1 q))

  pub says_malformed : (n : ℕ) → (r ≡ Err (look-up-errors.Malformed n)) ↔ ((cin_digits typed ≡ true) × FirstMalformedVisual text n)
  says_malformed n = (λ p. (malformed_where typed text n).0 (sym e ∙ ap typed_answer p), λ q. typed_case (Err (look-up-errors.Malformed n)) ((malformed_where typed text n).1 q))

  pub says_bad_entry : (r ≡ Err look-up-errors.BadEntry) ↔ (cin_digits typed ≡ false)
  unfolding typed_of
  says_bad_entry = (
    λ p. (entry_where typed text).0 (ap (λ (x : ℕ × ℕ). x.0) (sym e ∙ ap typed_answer p)),
    λ q. typed_case (Err look-up-errors.BadEntry) (rw q),
  )
