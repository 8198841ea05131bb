-- A list's text and its keys: what is written is read back, and what is read is written back; the count of keys is that
-- of 0A bytes; a key stands in the list exactly where its line stands in the text; a malformed text is refused with the
-- number of its first malformed line.
-- Assumes nothing.
use mathlib.Core.Path.{◌≡◌, refl, sym, ap, ◌∙◌}
use mathlib.Core.Bool.{Bool, true, false, cond, not}
use mathlib.Core.List.{List, [], ◌∷◌, ◌++◌, append-nil}
use mathlib.Core.Logic.{◌↔◌, ⊎_elim}
use mathlib.Mathlib.Data.Bool.Basic.{eq-false_of_not-eq-true}
use Prim.Native.Nat.{ℕ, zero, suc, min, ◌+◌, ◌-◌, ◌*◌, ◌/◌, ◌%◌, ◌≤◌, ◌<◌}
use native.Mathlib.Nat.{zero-add, add_assoc, div-add-mod, lt_of_not-le, eq-or-lt_of_le}
use native.Mathlib.Omega.{arith}
use borrow.Author.Tests.{eqb-true, eqb-false, ltb-true, ltb-false, lt-ltb, le-ltb, eq-eqb, ne_eqb}
use lib.Dec.{eqb, ltb, lit<}
use lib.ListN.{length, get_or, take, drop, get_or-eq_default, length-take, length-drop}
use lib.Seq.{take_at, drop-append-add, take-add, take_all, take-take, take-length, get_or-take, get_or-drop}
use Rattle.common.specs.Lists.{list_of, over_front}
use Rattle.common.specs.Decimal.{digit_of}
use Rattle.common.proofs.ListsLaws.{all_at, all_of, list_of_is, front_written, length-list_of, get_or_list_of}
use Rattle.ccl.specs.Line.{key_limit, card_text, line_of, good_line, line_key}
use Rattle.ccl.specs.ListText.{line_size, line_at, good_lines, well_formed, key_at, read_refusal, read_of, keys_after, small_keys, write_refusal, write_of, lines_of, text_after}
use Rattle.common.proofs.PassingLaws.{passing_is, passing-all}
use Rattle.ccl.proofs.LineLaws.{length_line, line_good, key_line, line_key_lem, key_small, good_length, only_end}
use Rattle.ccl.proofs.LinesLaws.{length_text, text_append}

-- ---- the text of keys

-- its lines are those of the keys
pub line_text_lem : (keys : List ℕ) (i : ℕ) → i < length keys → line_at (lines_of keys) i ≡ line_of (get_or keys i 0)
unfolding lines_of line_at
line_text_lem [] i h = absurd (omega arith)
line_text_lem (key ∷ keys) zero h = take_at (line_of key) (lines_of keys) 32 (length_line key)
line_text_lem (key ∷ keys) (suc i) h =
    let e : 32 * suc i ≡ length (line_of key) + 32 * i = omega (arith, length_line key) in
    rw (e, drop-append-add (line_of key) (lines_of keys) (32 * i)) (line_text_lem keys i (omega arith))

-- it is well formed, with a good line for each key, whatever the keys are
pub lines_text_lem : (keys : List ℕ) → good_lines (lines_of keys) ≡ length keys
unfolding good_lines
lines_text_lem keys =
    let e : length (lines_of keys) / 32 ≡ length keys = omega (arith, length_text keys) in
    rw e (passing-all (length keys) (λ i. good_line (line_at (lines_of keys) i)) (λ i h. rw (line_text_lem keys i h) (line_good (get_or keys i 0))))

pub well_text : (keys : List ℕ) → well_formed (lines_of keys) ≡ true
unfolding well_formed
well_text keys = eq-eqb (32 * good_lines (lines_of keys)) (length (lines_of keys)) (rw (lines_text_lem keys) (sym (length_text keys)))

-- "what is written is read back": keys below the limit are found again in their text
module _ (keys : List ℕ) (small : small_keys keys ≡ true) where
  pub key_text : (i : ℕ) → i < length keys → key_at (lines_of keys) i ≡ get_or keys i 0
  unfolding key_at small_keys
  key_text i h =
      rw (line_text_lem keys i h) (key_line (get_or keys i 0) (ltb-true (get_or keys i 0) key_limit (all_at (λ i. ltb (get_or keys i 0) key_limit) (length keys) small i h)))

  pub written_read : (well_formed (lines_of keys) ≡ true) × (good_lines (lines_of keys) ≡ length keys)
      × ((i : ℕ) → i < length keys → key_at (lines_of keys) i ≡ get_or keys i 0)
  written_read = (well_text keys, lines_text_lem keys, key_text)

  -- and are read into places that are enough, those past the last key staying as they were
  module _ (out : List ℕ) (fits : length keys ≤ length out) where
    accepted : read_refusal (lines_of keys) (length out) ≡ 0
    unfolding read_refusal
    accepted = rw (well_text keys, lines_text_lem keys, le-ltb (length out) (length keys) fits)

    pub read_text : read_of (lines_of keys) (length out) ≡ (0, length keys)
    unfolding read_of
    read_text = rw (accepted, lines_text_lem keys)

    pub keys_text : keys_after (lines_of keys) out ≡ over_front keys out
    unfolding keys_after
    keys_text = rw (accepted, lines_text_lem keys) (front_written out keys (length keys) (key_at (lines_of keys)) (list_of_is (length keys) (key_at (lines_of keys)) keys refl key_text))

-- ---- the lines of a text and their keys

-- 32 bytes of a text end within it
line_fits : (text : List ℕ) (p : ℕ) → length (take 32 (drop p text)) ≡ 32 → p + 32 ≤ length text
line_fits text p e = let f : min 32 (length text - p) ≡ 32 = simp (length-take, length-drop) at e in omega arith

-- the list of the keys of a text
abbrev pub keys_of : List ℕ → List ℕ
keys_of text = list_of (good_lines text) (key_at text)

module _ (text : List ℕ) where
  pub good_line_lem : (i : ℕ) → i < good_lines text → good_line (line_at text i) ≡ true
  unfolding good_lines
  good_line_lem = (passing_is (length text / 32) (λ i. good_line (line_at text i))).each

  -- the line after the good lines is not good: where nothing follows them, it is empty
  pub line_after_lem : good_line (line_at text (good_lines text)) ≡ false
  unfolding good_lines line_at
  line_after_lem =
      let n = length text / 32 in
      let p = passing_is n (λ i. good_line (line_at text i)) in
      ⊎_elim
      (λ (e : good_lines text ≡ n). eq-false_of_not-eq-true (λ q. omega (arith, e, line_fits text (32 * good_lines text) (good_length (line_at text (good_lines text)) q))))
      p.next (eq-or-lt_of_le p.most)

  -- every key that is read is below the limit, so that it may be written
  pub small-read : (i : ℕ) → i < good_lines text → key_at text i < key_limit
  unfolding key_at
  small-read i h = key_small (line_at text i) (good_line_lem i h)

  pub small_keys_lem : small_keys (keys_of text) ≡ true
  unfolding small_keys
  small_keys_lem =
      rw (length-list_of (good_lines text) (key_at text))
      (all_of _ (good_lines text) (λ i h. rw (get_or_list_of (good_lines text) (key_at text) i h) (lt-ltb (key_at text i) key_limit (small-read i h))))

  -- the lines of the first n keys are the first n lines
  first_lines : (n : ℕ) → n ≤ good_lines text → lines_of (list_of n (key_at text)) ≡ take (32 * n) text
  unfolding lines_of list_of key_at line_at
  first_lines zero h = refl
  first_lines (suc n) h =
      let e : 32 * suc n ≡ 32 * n + 32 = omega arith in
      rw (text_append (list_of n (key_at text)) (key_at text n ∷ []), first_lines n (omega arith), e, take-add (32 * n) 32 text, append-nil)
      (ap (λ (l : List ℕ). take (32 * n) text ++ l) (line_key_lem (line_at text n) (good_line_lem n (omega arith))))

module _ (text : List ℕ) (well : well_formed text ≡ true) where
  pub well_length : 32 * good_lines text ≡ length text
  unfolding well_formed
  well_length = eqb-true (32 * good_lines text) (length text) well

  -- "what is read is written back"
  pub read-written : lines_of (keys_of text) ≡ text
  read-written = first_lines text (good_lines text) (omega arith) ∙ rw well_length (take-length text)

  -- the keys of a text are written into bytes that are enough, and are that text again
  module _ (out : List ℕ) (fits : length text ≤ length out) where
    allowed : write_refusal (keys_of text) (length out) ≡ 0
    unfolding write_refusal
    allowed =
        rw (small_keys_lem text, length-list_of (good_lines text) (key_at text), le-ltb (length out / 32) (good_lines text) (omega (arith, well_length)))

    pub write_keys : write_of (keys_of text) (length out) ≡ (0, good_lines text)
    unfolding write_of
    write_keys = rw (allowed, length-list_of (good_lines text) (key_at text))

    pub text_keys : text_after (keys_of text) out ≡ over_front text out
    unfolding text_after
    text_keys = rw (allowed, read-written)

-- ---- the count of keys

-- how often x stands in a list
unfoldable pub occurrences : ℕ → List ℕ → ℕ
occurrences x [] = 0
occurrences x (y ∷ l) = cond (eqb y x) 1 0 + occurrences x l

occurrences_append : (x : ℕ) (l m : List ℕ) → occurrences x (l ++ m) ≡ occurrences x l + occurrences x m
unfolding occurrences
occurrences_append x [] m = sym (zero-add (occurrences x m))
occurrences_append x (y ∷ l) m = rw (occurrences_append x l m) (sym (add_assoc (cond (eqb y x) 1 0) (occurrences x l) (occurrences x m)))

digit_no_end : (key k : ℕ) → eqb (digit_of 16 key k) 0x0A ≡ false
unfolding digit_of
digit_no_end key k = ne_eqb (digit_of 16 key k) 0x0A (λ e. omega arith)

-- a line has one 0A, its last byte
line_ends : (key : ℕ) → occurrences 0x0A (line_of key) ≡ 1
unfolding occurrences line_of card_text list_of
line_ends key = simp (digit_no_end key)

pub text_ends : (keys : List ℕ) → occurrences 0x0A (lines_of keys) ≡ length keys
unfolding lines_of occurrences
text_ends [] = refl
text_ends (key ∷ keys) = rw (occurrences_append 0x0A (line_of key) (lines_of keys), line_ends key, text_ends keys) (omega arith)

-- the lines of a well-formed text are as many as its 0A bytes
pub count_lines : (text : List ℕ) → well_formed text ≡ true → good_lines text ≡ occurrences 0x0A text
count_lines text well =
    sym (length-list_of (good_lines text) (key_at text)) ∙ sym (text_ends (keys_of text))
    ∙ ap (occurrences 0x0A) (read-written text well)

-- an accepted text is well formed, and its keys have room
pub accepted_well : (text : List ℕ) (room : ℕ) → read_refusal text room ≡ 0 → (well_formed text ≡ true) × (good_lines text ≤ room)
unfolding read_refusal
accepted_well text room = go (well_formed text) (ltb room (good_lines text)) refl
  where
    go : (w l : Bool) → ltb room (good_lines text) ≡ l → ◌≡◌ {A = ℕ} (cond (not w) 20 (cond l 21 0)) 0 → (w ≡ true) × (good_lines text ≤ room)
    go true true q e = absurd (omega arith)
    go true false q e = (refl, ltb-false room (good_lines text) q)
    go false l q e = absurd (omega arith)

-- the key count cannot be invented
pub count_read : (text : List ℕ) (room : ℕ) → (read_of text room).0 ≡ 0 → (read_of text room).1 ≡ occurrences 0x0A text
unfolding read_of
count_read text room e =
    let f : read_refusal text room ≡ 0 = e in
    rw f (count_lines text (accepted_well text room f).0)

-- ---- a malformed text

-- a malformed text is refused, whatever the room
pub malformed_read : (text : List ℕ) (room : ℕ) → well_formed text ≡ false → read_of text room ≡ (20, good_lines text + 1)
unfolding read_of read_refusal
malformed_read text room e = rw e

-- Line n of a text, counted from 1, is its first malformed line: it has a byte; n - 1 bytes 0A stand before it, one of
-- them right before it where it is not the first line; every line before it is good; and no list line begins where it
-- begins, however many bytes are taken for it.
pub record FirstMalformed (text : List ℕ) (n : ℕ) : Type 0 where
  pub counted : 0 < n
  pub there : line_size * (n - 1) < length text
  pub after : occurrences 0x0A (take (line_size * (n - 1)) text) ≡ n - 1
  pub begins : (j : ℕ) → j + 1 ≡ line_size * (n - 1) → get_or text j 0 ≡ 0x0A
  pub before : (i : ℕ) → i + 1 < n → good_line (line_at text i) ≡ true
  pub malformed : (k : ℕ) → good_line (take k (drop (line_size * (n - 1)) text)) ≡ false

-- a text that is refused by 20 is malformed
refused_malformed : (text : List ℕ) (room : ℕ) → read_refusal text room ≡ 20 → well_formed text ≡ false
unfolding read_refusal
refused_malformed text room = go (well_formed text) (ltb room (good_lines text))
  where
    go : (w l : Bool) → ◌≡◌ {A = ℕ} (cond (not w) 20 (cond l 21 0)) 20 → w ≡ false
    go true true e = absurd (omega arith)
    go true false e = absurd (omega arith)
    go false l e = refl

-- the good lines that a text begins with have as many bytes 0A, the last byte among them, and where it is malformed a
-- byte follows
ends-before : (text : List ℕ) → occurrences 0x0A (take (32 * good_lines text) text) ≡ good_lines text
ends-before text =
    ap (occurrences 0x0A) (sym (first_lines text (good_lines text) (omega arith))) ∙ text_ends (keys_of text) ∙ length-list_of (good_lines text) (key_at text)

end_before : (text : List ℕ) (j : ℕ) → j + 1 ≡ 32 * good_lines text → get_or text j 0 ≡ 0x0A
unfolding line_of card_text list_of line_at
end_before text j e =
    let i = good_lines text - 1 in
    let s = line_at text i in
    let key_of = line_key_lem s (good_line_lem text i (omega arith)) in
    let at : j ≡ 32 * i + 31 = omega (arith, e) in
    rw at (sym (get_or-take 32 (drop (32 * i) text) 31 0 (lit< tt) ∙ get_or-drop (32 * i) text 31 0) ∙ ap (λ (l : List ℕ). get_or l 31 0) (sym key_of))

byte_after : (text : List ℕ) → well_formed text ≡ false → 32 * good_lines text < length text
unfolding well_formed good_lines
byte_after text e =
    let n = length text / 32 in
    let p = (passing_is n (λ i. good_line (line_at text i))).most in
    omega (arith, p, eqb-false (32 * good_lines text) (length text) e)

-- where 32 bytes are no list line, no other count of them is
no_line : (l : List ℕ) (k : ℕ) → good_line (take 32 l) ≡ false → good_line (take k l) ≡ false
no_line l k e = by (good_line (take k l)) refl
  where
    by : (b : Bool) → good_line (take k l) ≡ b → good_line (take k l) ≡ false
    by true q =
        let size = good_length (take k l) q in
        ap good_line (sym (take_all 32 (take k l) (omega (arith, size))) ∙ take-take 32 k l (omega (arith, size, length-take k l))) ∙ e
    by false q = q

-- the number beside 20 is that of the first malformed line
pub first_malformed : (text : List ℕ) (room : ℕ) → (read_of text room).0 ≡ 20 → FirstMalformed text (read_of text room).1
unfolding read_of line_at
first_malformed text room e =
    let f : read_refusal text room ≡ 20 = e in
    let last : good_lines text + 1 - 1 ≡ good_lines text = omega arith in
    rw f
    (record {
      counted = omega arith;
      there = rw last (byte_after text (refused_malformed text room f));
      after = rw last (ends-before text);
      begins = λ j h. end_before text j (rw last at h);
      before = λ i h. good_line_lem text i (omega arith);
      malformed = λ k. rw last (no_line (drop (32 * good_lines text) text) k (line_after_lem text));
    })

-- ---- a key in the list and its line in the text

module _ (text : List ℕ) (well : well_formed text ≡ true) where
  -- a 0A stands only at the end of a line
  only_ends : (j : ℕ) → get_or text j 0 ≡ 0x0A → j % 32 ≡ 31
  unfolding line_at
  only_ends j e =
      only_end (line_at text (j / 32)) (good_line_lem text (j / 32) (omega (arith, inside, well_length text well))) (j % 32) (omega arith)
      (rw (get_or-take 32 (drop (32 * (j / 32)) text) (j % 32) 0 (omega arith), get_or-drop, div-add-mod j 32) e)
    where
      inside : j < length text
      inside = lt_of_not-le (λ (l : length text ≤ j). omega (arith, get_or-eq_default text 0 l))

  module _ (key : ℕ) (small : key < key_limit) where
    -- the key of line i, and line i
    pub found_at : (i : ℕ) → ((i < good_lines text) × (key_at text i ≡ key)) ↔ ((32 * i + 32 ≤ length text) × (line_at text i ≡ line_of key))
    unfolding key_at
    found_at i = (
      λ p. (omega (arith, p.0, well_length text well), sym (line_key_lem (line_at text i) (good_line_lem text i p.0)) ∙ ap line_of p.1),
      λ p. (omega (arith, p.0, well_length text well), ap line_key p.1 ∙ key_line key small),
    )

    -- the key stands in the list exactly where its line stands in the text
    pub found : ((i : ℕ) × (i < good_lines text) × (key_at text i ≡ key)) ↔ ((i : ℕ) × (32 * i + 32 ≤ length text) × (line_at text i ≡ line_of key))
    found =
        (λ p. let q = (found_at p.0).0 (p.1, p.2) in (p.0, q.0, q.1), λ p. let q = (found_at p.0).1 (p.1, p.2) in (p.0, q.0, q.1))

    -- and its line stands nowhere else: where it stands, at any place, a line begins
    pub found_anywhere : (p : ℕ) → take 32 (drop p text) ≡ line_of key → (p ≡ 32 * (p / 32)) × (p / 32 < good_lines text) × (key_at text (p / 32) ≡ key)
    unfolding line_of card_text list_of line_at
    found_anywhere p e =
        let last : get_or text (p + 31) 0 ≡ 0x0A = sym (get_or-take 32 (drop p text) 31 0 (lit< tt) ∙ get_or-drop p text 31 0) ∙ ap (λ (l : List ℕ). get_or l 31 0) e in
        let end : (p + 31) % 32 ≡ 31 = only_ends (p + 31) last in
        let at : p ≡ 32 * (p / 32) = omega arith in
        let q = (found_at (p / 32)).1 (omega (arith, line_fits text p (ap length e)), rw (← at) e) in
        (at, q.0, q.1)
