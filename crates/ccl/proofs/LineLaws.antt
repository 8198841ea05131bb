-- A list line and its key: the line of a key is good and has that key, and a good line is the line of its key. A card's
-- text is a line without its 0A.
-- Assumes nothing.
use mathlib.Core.Path.{◌≡◌, refl, sym, ap, ◌∙◌}
use mathlib.Core.Bool.{Bool, true, false, cond, ◌&&◌, and-eq-true_iff, and-true}
use mathlib.Core.List.{List, [], ◌∷◌, ◌++◌}
use mathlib.Core.Logic.{⊎_elim}
use Prim.Native.Nat.{ℕ, suc, ◌+◌, ◌-◌, ◌≤◌, ◌<◌}
use native.Mathlib.Nat.{mod-eq_of_lt, le_refl, eq-or-lt_of_le}
use native.Mathlib.Numerals.{add-one}
use native.Mathlib.Omega.{arith}
use borrow.Author.Tests.{eqb-true, eqb-false, ltb-true, leb-true, le-leb, eq-eqb, ne_eqb}
use lib.Dec.{eqb, ltb}
use lib.ListN.{length, get_or, take, length-append, get_or-append}
use lib.Seq.{get_or_at, take_at}
use Rattle.common.specs.Lists.{list_of, slice_of, all}
use Rattle.card.specs.Fascn.{decimal_at, key_of}
use Rattle.common.proofs.ListsLaws.{all_at, all_of, all_ext, length-list_of, get_or_list_of, list_of_is, list_of_ext}
use Rattle.common.specs.Decimal.{is_digit_at, digit_values, spelled, digit_of, digits_of}
use Rattle.common.proofs.TestLaws.{and_both}
use Rattle.common.proofs.NumberLaws.{number_digit}
use Rattle.common.proofs.DecimalLaws.{digit_least, digit_most, number_values, spelled-digits, spelled-small, digits-spelled}
use Rattle.text.specs.Form.{between, between_at}
use Rattle.text.proofs.FormLaws.{between_at_lem, between_mark}
use Rattle.ccl.specs.Line.{key_limit, card_opens, space, between_groups, closes, card_text, line_of, good_line, good_card, line_digits, line_key}

-- ---- lengths

pub length_card : (key : ℕ) → length (card_text key) ≡ 31
unfolding card_text list_of
length_card key = refl

pub length_line : (key : ℕ) → length (line_of key) ≡ 32
unfolding line_of card_text list_of
length_line key = refl

-- ---- a line and its digits

-- the lowest and the highest byte that a good line may have at a place
abbrev low : ℕ → ℕ
low i = get_or (line_of 0) i 0

abbrev high : ℕ → ℕ
high i = get_or (line_of 9999999999999999) i 0

-- the line of a key is good, whatever the key is
pub line_good : (key : ℕ) → good_line (line_of key) ≡ true
unfolding good_line between between_at line_of card_text list_of digit_of all
line_good key = simp (digit_least 16 key, digit_most 16 key)

-- its digits are those of the key
digits_line : (key : ℕ) → line_digits (line_of key) ≡ digits_of 16 key
unfolding line_digits slice_of line_of card_text digits_of list_of
digits_line key = refl

-- every byte before the 0A is higher
above : all 31 (λ i. ltb 0x0A (low i)) ≡ true
unfolding line_of card_text list_of digit_of all
above = refl

-- the key in a line is the number that its digits spell
key_spelled : (s : List ℕ) → line_key s ≡ spelled 16 (line_digits s)
unfolding line_key key_of
key_spelled s = number_values 16 (line_digits s)

-- "what is written is read back"
pub key_line : (key : ℕ) → key < key_limit → line_key (line_of key) ≡ key
key_line key h = rw (key_spelled, digits_line key) (spelled-digits 16 key ∙ mod-eq_of_lt h)

-- ---- a good line

-- the line with given digits in ASCII
unfoldable line_from : List ℕ → List ℕ
line_from d =
    card_opens ++ slice_of 0 4 d ++ space ++ slice_of 4 4 d ++ space ++ slice_of 8 6 d ++ between_groups ++ slice_of 14 1 d ++ space ++ slice_of 15 1 d ++ closes ++ (0x0A ∷ [])

line_from_lem : (key : ℕ) → line_of key ≡ line_from (digits_of 16 key)
unfolding line_from line_of card_text slice_of digits_of list_of
line_from_lem key = refl

-- the line of the digits of s: the bytes of s where the lowest and the highest differ, and theirs where they do not
from_digits : (s : List ℕ) → line_from (line_digits s) ≡ list_of 32 (λ i. cond (eqb (low i) (high i)) (low i) (get_or s i 0))
unfolding line_from line_digits line_of card_text slice_of list_of digit_of
from_digits s = refl

-- the place of digit k in a line
abbrev place : ℕ → ℕ
place k = get_or (line_digits (list_of 32 (λ i. i))) k 0

digits_at : (s : List ℕ) → line_digits s ≡ list_of 16 (λ k. get_or s (place k) 0)
unfolding line_digits slice_of list_of
digits_at s = refl

-- digits stand there
places : all 16 (λ k. ltb (place k) 31 && eqb (low (place k)) 48 && eqb (high (place k)) 57) ≡ true
unfolding line_digits slice_of list_of line_of card_text digit_of all
places = refl

place_is : (k : ℕ) → k < 16 → (place k < 31) × (low (place k) ≡ 48) × (high (place k) ≡ 57)
place_is k h =
    let p = place k in
    let a = (and-eq-true_iff (ltb p 31 && eqb (low p) 48) (eqb (high p) 57)).0 (all_at _ 16 places k h) in
    let b = (and-eq-true_iff (ltb p 31) (eqb (low p) 48)).0 a.0 in
    (ltb-true p 31 b.0, eqb-true (low p) 48 b.1, eqb-true (high p) 57 a.1)

module _ (s : List ℕ) (good : good_line s ≡ true) where
  -- a good line has as many bytes as a line of a key, and they lie between the lowest and the highest
  parts : (length s ≡ 32) × ((i : ℕ) → (low i ≤ get_or s i 0) × (get_or s i 0 ≤ high i))
  unfolding good_line
  parts = let b = between_at_lem (line_of 0) (line_of 9999999999999999) s good in (b.0 ∙ length_line 0, b.2)

  pub good_length : length s ≡ 32
  good_length = parts.0

  -- a 0A stands only at its end
  pub only_end : (i : ℕ) → i < 32 → get_or s i 0 ≡ 0x0A → i ≡ 31
  only_end i h e =
      ⊎_elim
      (λ (q : i ≡ 31). q) (λ (l : i < 31). absurd (omega (arith, parts.1 i, ltb-true 0x0A (low i) (all_at _ 31 above i l))))
      (eq-or-lt_of_le (omega arith))

  -- it is the line of its digits
  good_from_lem : line_from (line_digits s) ≡ s
  unfolding good_line
  good_from_lem = from_digits s ∙ list_of_is 32 _ s good_length (λ i h. at i (eqb (low i) (high i)) refl)
    where
      at : (i : ℕ) (t : Bool) → eqb (low i) (high i) ≡ t → cond t (low i) (get_or s i 0) ≡ get_or s i 0
      at i true e = sym (between_mark (line_of 0) (line_of 9999999999999999) s good i (eqb-true (low i) (high i) e))
      at i false e = refl

  -- and they are decimal digits
  good_digits : all 16 (is_digit_at (line_digits s)) ≡ true
  unfolding is_digit_at
  good_digits = all_of _ 16 (λ k h.
      let p = place_is k h in
      let b = parts.1 (place k) in
      rw (digits_at s, get_or_list_of 16 (λ k. get_or s (place k) 0) k h)
      (and_both (le-leb 48 _ (rw p.1 at b.0)) (le-leb _ 57 (rw p.2 at b.1))))

  -- "what is read is written back"
  pub line_key_lem : line_of (line_key s) ≡ s
  line_key_lem = line_from_lem (line_key s) ∙ ap line_from (ap (digits_of 16) (key_spelled s) ∙ digits-spelled 16 (line_digits s) good_digits (rw (digits_at s) (length-list_of 16 (λ k. get_or s (place k) 0)))) ∙ good_from_lem

  pub key_small : line_key s < key_limit
  key_small = rw (key_spelled s) (spelled-small 16 (line_digits s) good_digits)

-- ---- a card's text

-- one byte more at the end
abbrev ended : List ℕ → ℕ → List ℕ
ended l x = l ++ (x ∷ [])

-- strings with digits at given places, with the same byte more at the end of each
module _ (a b s : List ℕ) (n x : ℕ) (p : length a ≡ n) (q : length b ≡ n) where
  all_last : length s ≡ n → all (n + 1) (between_at (ended a x) (ended b x) (ended s x)) ≡ all n (between_at a b s)
  unfolding all between_at
  all_last e =
      rw (add-one n, get_or_at a x [] 0 n p, get_or_at b x [] 0 n q, get_or_at s x [] 0 n e, le-leb x x (le_refl x), and-true)
      (all_ext n (λ i h.
      rw (get_or-append a (x ∷ []) 0 i (rw p h), get_or-append b (x ∷ []) 0 i (rw q h), get_or-append s (x ∷ []) 0 i (rw e h))))

  between_last : between (ended a x) (ended b x) (ended s x) ≡ between a b s
  unfolding between
  between_last = go (eqb (length s) n) refl
    where
      go : (t : Bool) → eqb (length s) n ≡ t → between (ended a x) (ended b x) (ended s x) ≡ between a b s
      go true e =
          let e' : length s ≡ n = eqb-true (length s) n e in
          simp (length-append, p, q, e', eq-eqb n n refl, eq-eqb (n + 1) (n + 1) refl) (all_last e')
      go false e = simp (length-append, p, q, e, ne_eqb (length s + 1) (n + 1) (λ h. eqb-false (length s) n e (omega arith)))

-- a card's text is a line without its 0A
pub card_line : (s : List ℕ) → good_line (s ++ (0x0A ∷ [])) ≡ good_card s
unfolding good_line good_card line_of
card_line s = between_last (card_text 0) (card_text 9999999999999999) s 31 0x0A (length_card 0) (length_card 9999999999999999)

-- with the same key
pub key_card_line : (s : List ℕ) → length s ≡ 31 → line_key (s ++ (0x0A ∷ [])) ≡ line_key s
unfolding line_key
key_card_line s e =
    ap (λ (d : List ℕ). key_of (digit_values d)) (digits_at (ended s 0x0A)
    ∙ list_of_ext 16 (λ k h. get_or-append s (0x0A ∷ []) 0 (place k) (omega (arith, place_is k h)))
    ∙ sym (digits_at s))

-- so the laws of a line are those of a card's text
pub card_good : (key : ℕ) → good_card (card_text key) ≡ true
unfolding line_of
card_good key = sym (card_line (card_text key)) ∙ line_good key

pub key_card : (key : ℕ) → key < key_limit → line_key (card_text key) ≡ key
unfolding line_of
key_card key h = sym (key_card_line (card_text key) (length_card key)) ∙ key_line key h

module _ (s : List ℕ) (good : good_card s ≡ true) where
  as_line : good_line (ended s 0x0A) ≡ true
  as_line = card_line s ∙ good

  pub card_length : length s ≡ 31
  card_length = omega (arith, length-append s (0x0A ∷ []), good_length (ended s 0x0A) as_line)

  pub card_key : card_text (line_key s) ≡ s
  unfolding line_of
  card_key =
      sym (take_at (card_text (line_key s)) (0x0A ∷ []) 31 (length_card (line_key s)))
      ∙ rw (← key_card_line s card_length) (ap (take 31) (line_key_lem (ended s 0x0A) as_line))
      ∙ take_at s (0x0A ∷ []) 31 card_length

  pub card_small : line_key s < key_limit
  card_small = rw (key_card_line s card_length) at (key_small (ended s 0x0A) as_line)

-- ---- the line of a card's own key

-- its digits are the first 16 of the FASC-N
pub card_digit : (d : List ℕ) → all 32 (decimal_at d) ≡ true → (k : ℕ) → k < 16 → digit_of 16 (key_of d) k ≡ 48 + get_or d k 0
unfolding digit_of key_of decimal_at
card_digit d good k h =
    let e : 15 - k ≡ 16 - suc k = omega arith in
    rw e (ap (λ (x : ℕ). 48 + x) (number_digit 10 16 (λ (i : ℕ). get_or d i 0) small k h))
  where
    small : (i : ℕ) → i < 16 → get_or d i 0 < 10
    small i l = let nine = leb-true (get_or d i 0) 9 (all_at (decimal_at d) 32 good i (omega arith)) in omega arith
