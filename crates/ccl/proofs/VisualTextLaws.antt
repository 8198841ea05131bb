-- A visual list's text and its numbers: what the lines of a text are; what is written as lines of digits is read as
-- those numbers, and a text whose lines are all good is such lines; no line is good both in a visual list and in a list
-- of keys.
-- Assumes nothing.
use mathlib.Core.Path.{◌≡◌, refl, sym, ap, ap₂, ◌∙◌}
use mathlib.Core.Bool.{Bool, true, false, cond}
use mathlib.Core.List.{List, [], ◌∷◌, ◌++◌, map, append_assoc, append-nil}
use mathlib.Core.Logic.{◌↔◌, ◌⊎◌, inl, inr}
use mathlib.Mathlib.Data.Bool.Basic.{eq-false_of_not-eq-true}
use Prim.Native.Nat.{ℕ, zero, suc, ◌-◌, ◌^◌, ◌≤◌, ◌<◌, zero-le, suc-le-suc}
use native.Mathlib.Nat.{not-suc-le-zero, le_of_suc-le-suc}
use native.Mathlib.Omega.{arith}
use borrow.Author.Tests.{eqb-true, eq-eqb, ne_eqb}
use lib.Dec.{eqb}
use lib.ListN.{length, get_or, length-append}
use lib.Seq.{take_at}
use Rattle.common.specs.Lists.{concat, passing, same_bytes}
use Rattle.common.specs.Decimal.{digits_of}
use Rattle.common.proofs.TestLaws.{and_parts, and_both}
use Rattle.common.proofs.ListsLaws.{same_refl, same_bytes_lem}
use Rattle.common.proofs.PassingLaws.{passing_is, passing-all}
use Rattle.common.proofs.DecimalLaws.{digit_at}
use Rattle.common.proofs.PlaceLaws.{NoEnd}
use Rattle.ccl.specs.Line.{closes, line_of, card_text, good_line, line_key}
use Rattle.ccl.specs.Cin.{longest_cin, cin_digits, cin_of}
use Rattle.ccl.specs.Visual.{cin_opens, cin_closes, visual_line_of, visual_text_of, with_first, text_lines, visual_digits, good_visual, good_visuals, well_visual, cins_in}
use Rattle.ccl.proofs.LineLaws.{line_key_lem}
use Rattle.ccl.proofs.CinLaws.{cin_parts, cin_digits_lem, digits_cin}

-- ---- the lines of a text

-- a line and its 0A, which is the only one in it
abbrev pub Ended : List ℕ → Type 0
Ended l = (u : List ℕ) × NoEnd u × (l ≡ u ++ (0x0A ∷ []))

-- Each line ends by its only 0A; the last may have none, but has a byte.
abbrev pub Cut : List (List ℕ) → Type 0
Cut [] = Unit
Cut (l ∷ []) = Ended l ⊎ ((0 < length l) × NoEnd l)
Cut (l ∷ m ∷ ls) = Ended l × Cut (m ∷ ls)

-- a byte more in front of a line
ended_more : (x : ℕ) (l : List ℕ) → eqb x 0x0A ≡ false → Ended l → Ended (x ∷ l)
ended_more x l e p = (x ∷ p.0, (e, p.1), ap (λ (m : List ℕ). x ∷ m) p.2)

-- with `concat_lines` and `lines_only` this says what the lines of a text are
pub lines_cut : (s : List ℕ) → Cut (text_lines s)
unfolding text_lines
lines_cut [] = tt
lines_cut (x ∷ s) = by (eqb x 0x0A) refl (text_lines s) (lines_cut s)
  where
    by : (b : Bool) → eqb x 0x0A ≡ b → (ls : List (List ℕ)) → Cut ls → Cut (cond b ((x ∷ []) ∷ ls) (with_first x ls))
    by true e [] c = inl ([], tt, ap (λ (y : ℕ). y ∷ []) (eqb-true x 0x0A e))
    by true e (m ∷ ms) c = (([], tt, ap (λ (y : ℕ). y ∷ []) (eqb-true x 0x0A e)), c)
    by false e [] c = inr (suc-le-suc zero-le, (e, tt))
    by false e (l ∷ []) (inl p) = inl (ended_more x l e p)
    by false e (l ∷ []) (inr p) = inr (suc-le-suc zero-le, (e, p.1))
    by false e (l ∷ m ∷ ms) c = (ended_more x l e c.0, c.1)

-- the lines are the text
concat_first : (x : ℕ) (ls : List (List ℕ)) → concat (with_first x ls) ≡ x ∷ concat ls
concat_first x [] = refl
concat_first x (l ∷ ls) = refl

pub concat_lines : (s : List ℕ) → concat (text_lines s) ≡ s
unfolding text_lines
concat_lines [] = refl
concat_lines (x ∷ s) = go (eqb x 0x0A) (concat_lines s)
  where
    go : (b : Bool) → concat (text_lines s) ≡ s → concat (cond b ((x ∷ []) ∷ text_lines s) (with_first x (text_lines s))) ≡ x ∷ s
    go true e = rw e
    go false e = concat_first x (text_lines s) ∙ ap (λ (l : List ℕ). x ∷ l) e

-- a line is its bytes to the 0A
lines_front : (l r : List ℕ) → NoEnd l → text_lines (l ++ (0x0A ∷ r)) ≡ (l ++ (0x0A ∷ [])) ∷ text_lines r
unfolding text_lines
lines_front [] r p = refl
lines_front (x ∷ l) r p = rw (p.0, lines_front l r p.1)

-- a line that its only 0A ends, in front of a text, is its first line
ended_front : (l r : List ℕ) → Ended l → text_lines (l ++ r) ≡ l ∷ text_lines r
ended_front l r p =
    ap (λ (m : List ℕ). text_lines (m ++ r)) p.2 ∙ ap text_lines (append_assoc p.0 (0x0A ∷ []) r) ∙ lines_front p.0 r p.1
    ∙ ap (λ (m : List ℕ). m ∷ text_lines r) (sym p.2)

-- and no other list of lines is so cut
line_alone : (x : ℕ) (l : List ℕ) → NoEnd (x ∷ l) → text_lines (x ∷ l) ≡ (x ∷ l) ∷ []
unfolding text_lines
line_alone x [] p = rw p.0
line_alone x (y ∷ l) p = ap₂ (λ (b : Bool) (ls : List (List ℕ)). cond b ((x ∷ []) ∷ ls) (with_first x ls)) p.0 (line_alone y l p.1)

pub lines_only : (ls : List (List ℕ)) → Cut ls → text_lines (concat ls) ≡ ls
unfolding text_lines
lines_only [] c = refl
lines_only (l ∷ []) (inl p) = ended_front l [] p
lines_only ((x ∷ l) ∷ []) (inr p) = ap text_lines (append-nil (x ∷ l)) ∙ line_alone x l p.1
lines_only ([] ∷ []) (inr p) = absurd (not-suc-le-zero p.0)
lines_only (l ∷ m ∷ ls) c = ended_front l (concat (m ∷ ls)) c.0 ∙ ap (λ (ms : List (List ℕ)). l ∷ ms) (lines_only (m ∷ ls) c.1)

-- ---- a good line

pub visual_digits_lem : (d : List ℕ) → visual_digits (visual_line_of d) ≡ d
unfolding visual_digits visual_line_of
visual_digits_lem d =
    let e : length (visual_line_of d) - 9 ≡ length d = omega (arith, length-append d cin_closes) in
    rw e (take_at d cin_closes (length d) refl)

pub visual_good : (d : List ℕ) → cin_digits d ≡ true → good_visual (visual_line_of d) ≡ true
unfolding good_visual
visual_good d p = rw (visual_digits_lem d) (and_both p (same_refl (visual_line_of d)))

pub visual_line : (l : List ℕ) → good_visual l ≡ true → (cin_digits (visual_digits l) ≡ true) × (l ≡ visual_line_of (visual_digits l))
unfolding good_visual
visual_line l p =
    let q = and_parts (cin_digits (visual_digits l)) (same_bytes l (visual_line_of (visual_digits l))) p in
    (q.0, same_bytes_lem l (visual_line_of (visual_digits l)) q.1)

-- ---- the line of digits in front of a text

no_end : (d : List ℕ) → ((i : ℕ) → i < length d → eqb (get_or d i 0) 0x0A ≡ false) → NoEnd d
no_end [] h = tt
no_end (x ∷ d) h = (h 0 (suc-le-suc zero-le), no_end d (λ i l. h (suc i) (suc-le-suc l)))

no_end_append : (a b : List ℕ) → NoEnd a → NoEnd b → NoEnd (a ++ b)
no_end_append [] b p q = q
no_end_append (x ∷ a) b p q = (p.0, no_end_append a b p.1 q)

-- a line without its 0A
abbrev unended : List ℕ → List ℕ
unended d = cin_opens ++ (d ++ closes)

unended_line : (d : List ℕ) → visual_line_of d ≡ unended d ++ (0x0A ∷ [])
unfolding visual_line_of
unended_line d = ap (λ (l : List ℕ). cin_opens ++ l) (sym (append_assoc d closes (0x0A ∷ [])))

-- the line of digits at the front of a text is its first line
pub lines_made : (d r : List ℕ) → cin_digits d ≡ true → text_lines (visual_line_of d ++ r) ≡ visual_line_of d ∷ text_lines r
lines_made d r p =
    let digit = digit_at (length d) d (cin_parts d p).2 in
    let digits = no_end d (λ i h. ne_eqb (get_or d i 0) 0x0A (λ e. omega (arith, digit i h))) in
    let line = no_end_append d closes digits (refl, (refl, tt)) in
    ended_front (visual_line_of d) r (unended d, (refl, (refl, (refl, (refl, (refl, (refl, line)))))), unended_line d)

-- ---- every line is good

-- each list of a list of them passes a test
abbrev pub Each : (List ℕ → Bool) → List (List ℕ) → Type 0
Each f [] = Unit
Each f (l ∷ ls) = (f l ≡ true) × Each f ls

pub good_at : (ls : List (List ℕ)) → Each good_visual ls → (i : ℕ) → i < length ls → good_visual (get_or ls i []) ≡ true
good_at [] p i h = absurd (not-suc-le-zero h)
good_at (l ∷ ls) p zero h = p.0
good_at (l ∷ ls) p (suc i) h = good_at ls p.1 i (le_of_suc-le-suc h)

good_each : (ls : List (List ℕ)) → ((i : ℕ) → i < length ls → good_visual (get_or ls i []) ≡ true) → Each good_visual ls
good_each [] h = tt
good_each (l ∷ ls) h = (h 0 (suc-le-suc zero-le), good_each ls (λ i k. h (suc i) (suc-le-suc k)))

pub well_good : (text : List ℕ) → (well_visual text ≡ true) ↔ Each good_visual (text_lines text)
unfolding well_visual good_visuals
well_good text =
    let n = length (text_lines text) in
    let f : ℕ → Bool = λ i. good_visual (get_or (text_lines text) i []) in (
      λ e. good_each (text_lines text) (λ i h. (passing_is n f).each i (rw (eqb-true (passing n f) n e) h)),
      λ p. eq-eqb (passing n f) n (passing-all n f (good_at (text_lines text) p)),
    )

-- ---- what is written as lines of digits is read as those numbers

lines_digits : (ds : List (List ℕ)) → Each cin_digits ds → text_lines (visual_text_of ds) ≡ map visual_line_of ds
unfolding text_lines
lines_digits [] p = refl
lines_digits (d ∷ ds) p = lines_made d (visual_text_of ds) p.0 ∙ ap (λ (ls : List (List ℕ)). visual_line_of d ∷ ls) (lines_digits ds p.1)

text_good : (ds : List (List ℕ)) → Each cin_digits ds → Each good_visual (map visual_line_of ds)
text_good [] p = tt
text_good (d ∷ ds) p = (visual_good d p.0, text_good ds p.1)

text_cins : (ds : List (List ℕ)) → map (λ l. cin_of (visual_digits l)) (map visual_line_of ds) ≡ map cin_of ds
text_cins [] = refl
text_cins (d ∷ ds) = ap₂ (λ (x : ℕ) (xs : List ℕ). x ∷ xs) (ap cin_of (visual_digits_lem d)) (text_cins ds)

pub digits-read : (ds : List (List ℕ)) → Each cin_digits ds → (well_visual (visual_text_of ds) ≡ true) × (cins_in (visual_text_of ds) ≡ map cin_of ds)
unfolding cins_in
digits-read ds p =
    let e = lines_digits ds p in (
      (well_good (visual_text_of ds)).1 (rw e (text_good ds p)),
      ap (map (λ l. cin_of (visual_digits l))) e ∙ text_cins ds,
    )

-- ---- a text whose lines are all good is such lines

-- the digits of its lines
abbrev pub digits_by_line : List ℕ → List (List ℕ)
digits_by_line text = map visual_digits (text_lines text)

read_cins : (ls : List (List ℕ)) → Each good_visual ls → Each cin_digits (map visual_digits ls)
read_cins [] p = tt
read_cins (l ∷ ls) p = ((visual_line l p.0).0, read_cins ls p.1)

read_lines : (ls : List (List ℕ)) → Each good_visual ls → visual_text_of (map visual_digits ls) ≡ concat ls
read_lines [] p = refl
read_lines (l ∷ ls) p = ap₂ (λ (a b : List ℕ). a ++ b) (sym (visual_line l p.0).1) (read_lines ls p.1)

pub text_digits : (text : List ℕ) → well_visual text ≡ true → Each cin_digits (digits_by_line text) × (visual_text_of (digits_by_line text) ≡ text)
text_digits text e = let p = (well_good text).0 e in (read_cins (text_lines text) p, read_lines (text_lines text) p ∙ concat_lines text)

-- ---- the same of numbers, each with its count of digits

abbrev pub Numbers : List (ℕ × ℕ) → Type 0
Numbers [] = Unit
Numbers ((n, x) ∷ xs) = ((1 ≤ n) × (n ≤ longest_cin) × (x < 10 ^ n)) × Numbers xs

abbrev pub digits_of_all : List (ℕ × ℕ) → List (List ℕ)
digits_of_all xs = map (λ p. digits_of p.0 p.1) xs

numbers_cins : (xs : List (ℕ × ℕ)) → Numbers xs → Each cin_digits (digits_of_all xs) × (map cin_of (digits_of_all xs) ≡ map (λ p. p.1) xs)
numbers_cins [] p = (tt, refl)
numbers_cins ((n, x) ∷ xs) p =
    let q = p.0 in
    let d = cin_digits_lem n x q.0 q.1 q.2 in
    let later = numbers_cins xs p.1 in
    ((d.0, later.0), ap₂ (λ (y : ℕ) (ys : List ℕ). y ∷ ys) d.1 later.1)

pub numbers-read : (xs : List (ℕ × ℕ)) → Numbers xs → (well_visual (visual_text_of (digits_of_all xs)) ≡ true) × (cins_in (visual_text_of (digits_of_all xs)) ≡ map (λ p. p.1) xs)
numbers-read xs p =
    let q = numbers_cins xs p in
    let r = digits-read (digits_of_all xs) q.0 in
    (r.0, r.1 ∙ q.1)

-- the counts and numbers of the lines of a text
abbrev pub numbers_in : List ℕ → List (ℕ × ℕ)
numbers_in text = map (λ d. (length d, cin_of d)) (digits_by_line text)

digits_again : (ds : List (List ℕ)) → Each cin_digits ds → digits_of_all (map (λ d. (length d, cin_of d)) ds) ≡ ds
digits_again [] p = refl
digits_again (d ∷ ds) p = ap₂ (λ (x : List ℕ) (xs : List (List ℕ)). x ∷ xs) (digits_cin d p.0) (digits_again ds p.1)

pub numbers-written : (text : List ℕ) → well_visual text ≡ true → visual_text_of (digits_of_all (numbers_in text)) ≡ text
numbers-written text e = let r = text_digits text e in ap visual_text_of (digits_again (digits_by_line text) r.0) ∙ r.1

-- ---- a line of the one list is none of the other: "neither is accepted for the other"

-- the third byte is `a` in the one and `i` in the other
differ : (key : ℕ) (d : List ℕ) → line_of key ≡ visual_line_of d → ⊥
unfolding line_of card_text visual_line_of
differ key d e = omega (arith, ap (λ (l : List ℕ). get_or l 2 0) e)

pub not_both : (l : List ℕ) → good_line l ≡ true → good_visual l ≡ false
not_both l p = eq-false_of_not-eq-true (λ q. differ (line_key l) (visual_digits l) (line_key_lem l p ∙ (visual_line l q).1))
