-- A visual list as the code goes about it: the digits that some bytes begin with, the line that a text begins with,
-- which is its first line, and the pass over the lines, which gives what the definition says.
-- Assumes nothing.
use mathlib.Core.Path.{◌≡◌, refl, sym, ap, ap₂, ◌∙◌}
use mathlib.Core.Bool.{Bool, true, false, cond, ◌&&◌, ◌||◌, or-false, or_assoc}
use mathlib.Core.List.{List, [], ◌∷◌, ◌++◌, append_assoc, map}
use Prim.Native.Nat.{ℕ, zero, suc, ◌+◌, ◌≤◌, ◌<◌, min, zero-le}
use native.Mathlib.Nat.{zero-add, add-zero, le_refl, not-suc-le-zero}
use native.Mathlib.Omega.{arith}
use borrow.Author.Tests.{ltb-true, ltb-false, leb-true, le-leb, eqb-true, eq-eqb, ne_eqb}
use lib.Dec.{eqb, ltb, leb}
use lib.ListN.{length, get_or, take, drop, take-append-drop, length-take, length-drop, get_or-append, get_or-eq_default}
use lib.Seq.{get_or_at, get_or-take, drop_at, drop-drop, length-take-le}
use Rattle.std.specs.List.{starts_with}
use Rattle.std.specs.Str.{bytes_eq}
use Rattle.std.proofs.lemmas.Slice.Eq.{bytes_eq-Decides}
use Rattle.common.specs.Lists.{all, concat, passing, is_in, same_bytes}
use Rattle.common.specs.Decimal.{is_digit_at, spelled}
use Rattle.common.proofs.TestLaws.{and_parts, and_both, same_test}
use Rattle.common.proofs.ListsLaws.{all_at, all_of, all_ext, same_refl, same_bytes_lem}
use Rattle.common.proofs.PassingLaws.{eqb-suc, passing_is, passing_stop, passing-all, passing_front}
use Rattle.common.proofs.DecimalLaws.{spelled-append}
use Rattle.ccl.specs.Cin.{longest_cin, cin_digits, cin_of}
use Rattle.ccl.specs.Visual.{cin_opens, cin_closes, visual_line_of, with_first, text_lines, visual_digits, good_visual, good_visuals, well_visual, cins_in, lookup_of}
use Rattle.ccl.specs.VisualCode.{leading_digits, front_size, front_number, pass_over}
use Rattle.ccl.proofs.CinLaws.{cin_parts, cin_made}
use Rattle.ccl.proofs.VisualTextLaws.{concat_lines, visual_digits_lem, visual_good, visual_line, lines_made}

-- ---- the digits that some bytes begin with

pub leading_is : (s : List ℕ) (m : ℕ) → m ≤ longest_cin → all m (is_digit_at s) ≡ true → is_digit_at s m ≡ false → leading_digits s ≡ m
unfolding leading_digits
leading_is s m h p q = passing_stop (is_digit_at s) m 11 (omega arith) (passing-all m (is_digit_at s) (all_at (is_digit_at s) m p)) q

pub leading_are : (s : List ℕ) → all (leading_digits s) (is_digit_at s) ≡ true
unfolding leading_digits
leading_are s = all_of _ _ (passing_is 11 (is_digit_at s)).each

pub leading_most : (s : List ℕ) → leading_digits s ≤ 11
unfolding leading_digits
leading_most s = (passing_is 11 (is_digit_at s)).most

-- no digit stands past the end
past_end : (s : List ℕ) → is_digit_at s (length s) ≡ false
unfolding is_digit_at
past_end s = rw (get_or-eq_default s 0 (le_refl (length s)))

-- a loop that looks at each byte, as far as eleven, and finds digits alone
pub leading_end : (s : List ℕ) (k : ℕ) → k ≡ min (length s) 11 → passing k (is_digit_at s) ≡ k → leading_digits s ≡ k
unfolding leading_digits
leading_end s k e p = by (ltb (length s) 11) refl
  where
    by : (b : Bool) → ltb (length s) 11 ≡ b → passing 11 (is_digit_at s) ≡ k
    by true q = let h = ltb-true (length s) 11 q in let n : k ≡ length s = omega arith in passing_stop (is_digit_at s) k 11 (omega arith) p (rw n (past_end s))
    by false q = let h = ltb-false (length s) 11 q in let n : 11 ≡ k = omega arith in ap (λ (m : ℕ). passing m (is_digit_at s)) n ∙ p

-- a byte of the first eleven, in which the loop looks
pub front_byte : (s : List ℕ) {f : List ℕ} (i : ℕ) → f ≡ take 11 s → i < length f → get_or f i 0 ≡ get_or s i 0
front_byte s i e h = ap (λ (l : List ℕ). get_or l i 0) e ∙ get_or-take 11 s i 0 (omega (arith, ap length e, length-take 11 s))

-- the tests of read_entry decide
pub entry_test : (s : List ℕ) → leb 1 (leading_digits s) && leb (leading_digits s) 10 && eqb (leading_digits s) (length s) ≡ cin_digits s
entry_test s = same_test _ _ made read
  where
    made : leb 1 (leading_digits s) && leb (leading_digits s) 10 && eqb (leading_digits s) (length s) ≡ true → cin_digits s ≡ true
    made e =
        let a = and_parts (leb 1 (leading_digits s) && leb (leading_digits s) 10) (eqb (leading_digits s) (length s)) e in
        let b = and_parts (leb 1 (leading_digits s)) (leb (leading_digits s) 10) a.0 in
        let n : leading_digits s ≡ length s = eqb-true (leading_digits s) (length s) a.1 in
        cin_made s (rw n at (leb-true 1 (leading_digits s) b.0), rw n at (leb-true (leading_digits s) 10 b.1), rw n at (leading_are s))

    read : cin_digits s ≡ true → leb 1 (leading_digits s) && leb (leading_digits s) 10 && eqb (leading_digits s) (length s) ≡ true
    read e =
        let p = cin_parts s e in
        rw (leading_is s (length s) p.1 p.2 (past_end s))
        (and_both (and_both (le-leb 1 (length s) p.0) (le-leb (length s) 10 p.1)) (eq-eqb (length s) (length s) refl))

-- `starts_with`, as the definitions compare
pub starts_same : (s p : List ℕ) → starts_with eqb s p ≡ same_bytes (take (length p) s) p
starts_same s p =
    let d = bytes_eq-Decides p (take (length p) s) in
    same_test (bytes_eq p (take (length p) s)) (same_bytes (take (length p) s) p)
    (λ e. rw (← d.0 e) (same_refl p)) (λ e. d.1 (sym (same_bytes_lem (take (length p) s) p e)))

-- ---- the line of some digits, at the front of a text

-- what follows the six bytes that open it
after_opens : (d r : List ℕ) → drop 6 (visual_line_of d ++ r) ≡ d ++ (cin_closes ++ r)
unfolding visual_line_of
after_opens d r = append_assoc d cin_closes r

-- digits with anything else after them
digit_append : (d r : List ℕ) (i : ℕ) → i < length d → is_digit_at (d ++ r) i ≡ is_digit_at d i
unfolding is_digit_at
digit_append d r i h = rw (get_or-append d r 0 i h)

not_after : (d r : List ℕ) → is_digit_at (d ++ (cin_closes ++ r)) (length d) ≡ false
unfolding is_digit_at
not_after d r = rw (get_or_at d 0x29 (0x29 ∷ 0x0A ∷ r) 0 (length d) refl)

module _ (d r : List ℕ) (p : cin_digits d ≡ true) where
  leading_line : leading_digits (drop 6 (visual_line_of d ++ r)) ≡ length d
  leading_line =
      let q = cin_parts d p in
      rw (after_opens d r)
      (leading_is (d ++ (cin_closes ++ r)) (length d) q.1 (all_ext (length d) (digit_append d (cin_closes ++ r)) ∙ q.2) (not_after d r))

  closes_line : drop (6 + length d) (visual_line_of d ++ r) ≡ cin_closes ++ r
  closes_line = sym (drop-drop (length d) 6 (visual_line_of d ++ r)) ∙ ap (drop (length d)) (after_opens d r) ∙ drop_at d (cin_closes ++ r) (length d) refl

  -- it is found there
  pub front_made : front_size (visual_line_of d ++ r) ≡ 6 + length d + 3
  unfolding front_size visual_line_of
  front_made =
      let q = cin_parts d p in
      let opened : same_bytes (take 6 (visual_line_of d ++ r)) cin_opens ≡ true = same_refl cin_opens in
      let closed : same_bytes (take 3 (cin_closes ++ r)) cin_closes ≡ true = same_refl cin_closes in
      rw (leading_line, closes_line, opened, closed, le-leb 1 (length d) q.0, le-leb (length d) 10 q.1)

-- ---- the line that a text begins with

abbrev front_digits : List ℕ → List ℕ
front_digits s = take (leading_digits (drop 6 s)) (drop 6 s)

abbrev front_test : List ℕ → Bool
front_test s =
    let n = leading_digits (drop 6 s) in
    same_bytes (take 6 s) cin_opens && leb 1 n && leb n 10 && same_bytes (take 3 (drop (6 + n) s)) cin_closes

-- The line that s begins with: that of digits, and s is that line and what follows it.
record BeginsWithLine (s : List ℕ) : Type 0 where
  digits : cin_digits (front_digits s) ≡ true
  size : front_size s ≡ 6 + length (front_digits s) + 3
  whole : s ≡ visual_line_of (front_digits s) ++ drop (front_size s) s
  number : front_number s ≡ cin_of (front_digits s)

-- the tests that a size other than 0 tells of
front_test_lem : (s : List ℕ) → (front_size s ≡ 0 → ⊥) → (front_test s ≡ true) × (front_size s ≡ 6 + leading_digits (drop 6 s) + 3)
unfolding front_size
front_test_lem s = go (front_test s)
  where
    go : (b : Bool) → (cond b (6 + leading_digits (drop 6 s) + 3) 0 ≡ 0 → ⊥) → (b ≡ true) × (cond b (6 + leading_digits (drop 6 s) + 3) 0 ≡ 6 + leading_digits (drop 6 s) + 3)
    go true h = (refl, refl)
    go false h = absurd (h refl)

module _ (s : List ℕ) (some : front_size s ≡ 0 → ⊥) where
  abbrev n : ℕ
  n = leading_digits (drop 6 s)

  tests : (take 6 s ≡ cin_opens) × (1 ≤ n) × (n ≤ 10) × (take 3 (drop (6 + n) s) ≡ cin_closes)
  tests =
      let a = and_parts (same_bytes (take 6 s) cin_opens && leb 1 n && leb n 10) (same_bytes (take 3 (drop (6 + n) s)) cin_closes) (front_test_lem s some).0 in
      let b = and_parts (same_bytes (take 6 s) cin_opens && leb 1 n) (leb n 10) a.0 in
      let c = and_parts (same_bytes (take 6 s) cin_opens) (leb 1 n) b.0 in
      (same_bytes_lem (take 6 s) cin_opens c.0, leb-true 1 n c.1, leb-true n 10 b.1, same_bytes_lem (take 3 (drop (6 + n) s)) cin_closes a.1)

  room : 6 + n + 3 ≤ length s
  room = omega (arith, ap length tests.3, length-take 3 (drop (6 + n) s), length-drop (6 + n) s)

  digits-length : length (front_digits s) ≡ n
  digits-length = length-take-le n (drop 6 s) (omega (arith, room, length-drop 6 s))

  -- the digits, and what follows them
  parted : front_digits s ++ drop n (drop 6 s) ≡ drop 6 s
  parted = take-append-drop n (drop 6 s)

  digits_good : cin_digits (front_digits s) ≡ true
  digits_good = cin_made (front_digits s) (rw digits-length tests.1, rw digits-length tests.2, rw digits-length (all_ext n same ∙ leading_are (drop 6 s)))
    where
      same : (i : ℕ) → i < n → is_digit_at (front_digits s) i ≡ is_digit_at (drop 6 s) i
      same i h = sym (digit_append (front_digits s) (drop n (drop 6 s)) i (rw digits-length h)) ∙ ap (λ (t : List ℕ). is_digit_at t i) parted

  whole_line : s ≡ visual_line_of (front_digits s) ++ drop (6 + n + 3) s
  unfolding visual_line_of
  whole_line =
      let u = drop (6 + n) s in
      let rest : drop 3 u ≡ drop (6 + n + 3) s = drop-drop 3 (6 + n) s in
      let closed : drop n (drop 6 s) ≡ cin_closes ++ drop (6 + n + 3) s =
      drop-drop n 6 s ∙ sym (take-append-drop 3 u) ∙ ap₂ (λ (a b : List ℕ). a ++ b) tests.3 rest in
      let opened : drop 6 s ≡ front_digits s ++ (cin_closes ++ drop (6 + n + 3) s) =
      sym parted ∙ ap (λ (l : List ℕ). front_digits s ++ l) closed in
      sym (take-append-drop 6 s) ∙ ap₂ (λ (a b : List ℕ). a ++ b) tests.0 (opened ∙ sym (append_assoc (front_digits s) cin_closes (drop (6 + n + 3) s)))

  front_read : BeginsWithLine s
  unfolding front_number cin_of
  front_read =
      let e = (front_test_lem s some).1 in
      record {
        digits = digits_good;
        size = rw digits-length e;
        whole = rw e whole_line;
        number = rw digits-length (ap (spelled n) (sym parted) ∙ spelled-append n (front_digits s) (drop n (drop 6 s)) digits-length);
      }

-- the line ends within the text
pub front_within : (s : List ℕ) → front_size s ≤ length s
front_within s = by (front_size s) refl
  where
    by : (m : ℕ) → front_size s ≡ m → m ≤ length s
    by zero e = zero-le
    by (suc m) e = let some : front_size s ≡ 0 → ⊥ = λ z. omega arith in omega (arith, e, (front_test_lem s some).1, room s some)

-- ---- a pass over the lines

-- a text with a byte has a line
first_line : (s : List ℕ) → 0 < length s → (l : List ℕ) × (ls : List (List ℕ)) × (text_lines s ≡ l ∷ ls)
unfolding text_lines
first_line [] h = absurd (omega arith)
first_line (x ∷ s) h = go (eqb x 0x0A) (text_lines s)
  where
    go : (b : Bool) (m : List (List ℕ)) → (l : List ℕ) × (ls : List (List ℕ)) × (cond b ((x ∷ []) ∷ m) (with_first x m) ≡ l ∷ ls)
    go true m = (x ∷ [], m, refl)
    go false [] = (x ∷ [], [], refl)
    go false (l ∷ ls) = (x ∷ l, ls, refl)

module _ (cin k : ℕ) (met : Bool) (s : List ℕ) where
  -- a good line at the front is passed
  pub pass_on : (front_size s ≡ 0 → ⊥)
      → pass_over cin k met (text_lines s) ≡ pass_over cin (k + 1) (met || eqb cin (front_number s)) (text_lines (drop (front_size s) s))
  unfolding pass_over
  pass_on some =
      let f = front_read s some in
      let d = front_digits s in
      let r = drop (front_size s) s in
      ap (λ (l : List ℕ). pass_over cin k met (text_lines l)) f.whole
      ∙ ap (pass_over cin k met) (lines_made d r f.digits)
      ∙ rw (visual_good d f.digits, visual_digits_lem d, f.number)

  -- at the end of the text
  pub pass_end : length s ≤ 0 → pass_over cin k met (text_lines s) ≡ (0, cond met 1 0)
  unfolding pass_over text_lines
  pass_end h = by s h
    where
      by : (s : List ℕ) → length s ≤ 0 → pass_over cin k met (text_lines s) ≡ (0, cond met 1 0)
      by [] h = refl
      by (x ∷ s) h = absurd (not-suc-le-zero h)

  -- where there is none, the first line is malformed
  pub pass_stop : 0 < length s → front_size s ≡ 0 → pass_over cin k met (text_lines s) ≡ (24, k + 1)
  unfolding pass_over
  pass_stop h none = let f = first_line s h in ap (pass_over cin k met) f.2 ∙ by f.0 f.1 f.2 (good_visual f.0) refl
    where
      by : (l : List ℕ) (ls : List (List ℕ)) → text_lines s ≡ l ∷ ls → (b : Bool) → good_visual l ≡ b
          → cond b (pass_over cin (k + 1) (met || eqb cin (cin_of (visual_digits l))) ls) (24, k + 1) ≡ (24, k + 1)
      by l ls e true q =
          let g = visual_line l q in
          let whole : visual_line_of (visual_digits l) ++ concat ls ≡ s = ap (λ (m : List ℕ). m ++ concat ls) (sym g.1) ∙ ap concat (sym e) ∙ concat_lines s in
          absurd (omega (arith, sym none ∙ ap front_size (sym whole) ∙ front_made (visual_digits l) (concat ls) g.0))
      by l ls e false q = refl

-- the pass gives what the definition says
pass_is : (cin k : ℕ) (met : Bool) (ls : List (List ℕ))
    → let good = passing (length ls) (λ i. good_visual (get_or ls i [])) in
    pass_over cin k met ls ≡ cond (eqb good (length ls)) (0, cond (met || is_in cin (map (λ l. cin_of (visual_digits l)) ls)) 1 0) (24, k + good + 1)
unfolding pass_over passing
pass_is cin k met [] = rw (or-false met)
pass_is cin k met (l ∷ ls) =
    by (good_visual l) _ _ (passing_front (length ls) (λ i. good_visual (get_or (l ∷ ls) i []))) (pass_is cin (k + 1) (met || eqb cin (cin_of (visual_digits l))) ls)
  where
    y : Bool
    y = eqb cin (cin_of (visual_digits l))

    i : Bool
    i = is_in cin (map (λ l. cin_of (visual_digits l)) ls)

    by : (b : Bool) (good p : ℕ) → good ≡ cond b (suc p) 0
        → pass_over cin (k + 1) (met || y) ls ≡ cond (eqb p (length ls)) (0, cond (met || y || i) 1 0) (24, k + 1 + p + 1)
        → cond b (pass_over cin (k + 1) (met || y) ls) (24, k + 1) ≡ cond (eqb good (suc (length ls))) (0, cond (met || (y || i)) 1 0) (24, k + good + 1)
    by true good p e ih = let m : k + 1 + p ≡ k + suc p = omega arith in rw (e, ih, eqb-suc p (length ls), or_assoc met y i, m)
    by false good p e ih = rw (e, ne_eqb 0 (suc (length ls)) (λ h. omega arith), add-zero k)

pub lookup_is : (cin : ℕ) (text : List ℕ) → pass_over cin 0 false (text_lines text) ≡ lookup_of cin text
unfolding lookup_of well_visual good_visuals cins_in
lookup_is cin text = pass_is cin 0 false (text_lines text) ∙ rw (zero-add (good_visuals text))
