-- A line and its text: a line that is not bad is the text of its value, and the text of a value that has one is read as that value.
-- Assumes nothing.
use mathlib.Core.Path.{◌≡◌, refl, sym, ap, subst, ◌∙◌}
use mathlib.Core.Bool.{Bool, true, false, cond, ◌&&◌}
use mathlib.Core.List.{List, [], ◌∷◌, ◌++◌, append_assoc}
use Prim.Native.Nat.{ℕ, ◌+◌, ◌-◌, ◌*◌, ◌^◌, ◌≤◌, ◌<◌}
use native.Mathlib.Nat.{mod-eq_of_lt}
use native.Mathlib.Omega.{arith}
use borrow.Author.Tests.{eqb-true, ltb-true, le-leb, le-ltb}
use lib.Dec.{eqb, ltb, lit<}
use lib.ListN.{length, get_or, take, drop, length-take, length-drop, length-append}
use lib.Seq.{length-take-le, get_or-take, get_or-drop, take-append_seam, drop-append_seam, get_or_at}
use Rattle.common.specs.Lists.{list_of, slice_of, all}
use Rattle.common.proofs.ListsLaws.{all_at, all_of, list_of_is, list_of_ext}
use Rattle.common.specs.Decimal.{is_digit_at, spelled, digits_of}
use Rattle.common.proofs.DecimalLaws.{digit_least, digit_most, length-digits_of, spelled-digits, spelled-small, front_spelled, spelled-append}
use Rattle.common.proofs.TestLaws.{and_parts, and_both, by_case}
use Rattle.text.specs.Hex.{bytes_in, hex_of}
use Rattle.text.specs.Form.{between, between_at}
use Rattle.text.proofs.HexLaws.{hex_bytes, bytes_small, length_bytes_lem, length_hex, hex_is_hex, bytes_hex}
use Rattle.text.proofs.FormLaws.{between_at_lem, between_mark}
use Rattle.ccl.specs.Line.{space, good_card, line_key, card_text}
use Rattle.ccl.proofs.LineLaws.{card_key, card_small, card_good, key_card}
use Rattle.gate_lines.specs.Line.{GateLine, longest, open_lowest, open_highest, answer_opens, verdict_lowest, verdict_highest, hex_from, headed, call_in, line_in}
use Rattle.gate_lines.specs.LineText.{open_name, open_text, verdict_name, verdict_text, with_hex, text_of_line, SomeBytes, HasText}
use Rattle.gate_lines.proofs.LineLaws.{headed_room, headed_form, headed_hex, headed_parts, line_short}

-- ---- digits

-- decimal digits stand at the n places from place `at` on
abbrev Digits : List ℕ → ℕ → ℕ → Type 0
Digits s at n = (j : ℕ) → j < n → (48 ≤ get_or s (at + j) 0) × (get_or s (at + j) 0 ≤ 57)

digits-all : (s : List ℕ) (at n : ℕ) → Digits s at n → all n (is_digit_at (drop at s)) ≡ true
unfolding is_digit_at
digits-all s at n d =
    all_of _ n (λ j h. rw (get_or-drop at s j 0) (and_both (le-leb 48 (get_or s (at + j) 0) (d j h).0) (le-leb (get_or s (at + j) 0) 57 (d j h).1)))

digits_lt : (s : List ℕ) (at n : ℕ) → Digits s at n → spelled n (drop at s) < 10 ^ n
digits_lt s at n d = spelled-small n (drop at s) (digits-all s at n d)

-- the digits of the number that they spell
digits_back : (s : List ℕ) (at n : ℕ) → Digits s at n → digits_of n (spelled n (drop at s)) ≡ slice_of at n s
unfolding slice_of
digits_back s at n d = front_spelled n (drop at s) (digits-all s at n d) ∙ list_of_ext n (λ j h. get_or-drop at s j 0)

-- ---- a line that is not bad is the text of its value

-- the bytes of the two strings where they agree, and those of s elsewhere
abbrev filled : List ℕ → List ℕ → List ℕ → List ℕ
filled lo hi s = list_of (length lo) (λ i. cond (eqb (get_or lo i 0) (get_or hi i 0)) (get_or lo i 0) (get_or s i 0))

length-hex_from : (n : ℕ) (s : List ℕ) → n + 3 ≤ length s → length (hex_from n s) ≡ length s - (n + 1)
unfolding hex_from
length-hex_from n s h = length-take-le (length s - (n + 1)) (drop n s) (rw (length-drop n s) (omega arith))

-- HEX is no longer than the line
pub hex_length : (n : ℕ) (s : List ℕ) → length s ≤ longest → length (hex_from n s) ≤ longest
unfolding hex_from
hex_length n s h = omega (arith, length-take (length s - (n + 1)) (drop n s), length-drop n s)

module _ (lo hi s : List ℕ) (good : headed lo hi s ≡ true) where
  at_place : (i : ℕ) → i < length lo → (get_or lo i 0 ≤ get_or s i 0) × (get_or s i 0 ≤ get_or hi i 0)
  at_place i h = rw (get_or-take (length lo) s i 0 h) at ((between_at_lem lo hi (take (length lo) s) (headed_form lo hi s good)).2 i)

  head_filled : filled lo hi s ≡ take (length lo) s
  head_filled =
      list_of_is (length lo) _ (take (length lo) s) (length-take-le (length lo) s (omega (arith, headed_room lo hi s good)))
      (λ i h. pinned (get_or lo i 0) (get_or hi i 0) (get_or s i 0) (at_place i h).0 (at_place i h).1 ∙ sym (get_or-take (length lo) s i 0 h))
    where
      pinned : (a b x : ℕ) → a ≤ x → x ≤ b → cond (eqb a b) a x ≡ x
      pinned a b x p q = go (eqb a b) refl
        where
          go : (t : Bool) → eqb a b ≡ t → cond t a x ≡ x
          go true e = omega (arith, eqb-true a b e)
          go false e = refl

  text_back : (head : List ℕ) → head ≡ filled lo hi s → with_hex head (bytes_in (hex_from (length lo) s)) ≡ s
  unfolding with_hex
  text_back head e = rw (e, head_filled, hex_bytes (hex_from (length lo) s) (headed_hex lo hi s good)) (headed_parts lo hi s good)

  -- HEX has a pair or more
  bytes_back : SomeBytes (bytes_in (hex_from (length lo) s))
  bytes_back = (rw (length_bytes_lem (hex_from (length lo) s)) (omega (arith, headed_room lo hi s good, length-hex_from (length lo) s (headed_room lo hi s good))), bytes_small (hex_from (length lo) s))

  -- where the two strings have the lowest and the highest digit, a digit stands
  digits_in_lem : (at n : ℕ) → all n (λ j. ltb (at + j) (length lo) && eqb (get_or lo (at + j) 0) 48 && eqb (get_or hi (at + j) 0) 57) ≡ true → Digits s at n
  digits_in_lem at n p j h =
      let i = at + j in
      let a = and_parts (ltb i (length lo) && eqb (get_or lo i 0) 48) (eqb (get_or hi i 0) 57) (all_at _ n p j h) in
      let b = and_parts (ltb i (length lo)) (eqb (get_or lo i 0) 48) a.0 in
      rw (eqb-true (get_or lo i 0) 48 b.1, eqb-true (get_or hi i 0) 57 a.1) at (at_place i (ltb-true i (length lo) b.0))

-- the heads, with digits that spell the value's numbers
open_filled : (s : List ℕ) → Digits s 6 1 → Digits s 8 8 → open_text (spelled 1 (drop 6 s)) (spelled 8 (drop 8 s)) ≡ filled open_lowest open_highest s
unfolding open_text slice_of list_of
open_filled s d e = rw (digits_back s 6 1 d, digits_back s 8 8 e)

verdict_filled : (s : List ℕ) → Digits s 9 1 → Digits s 11 1 → verdict_text (spelled 1 (drop 9 s)) (spelled 1 (drop 11 s)) ≡ filled verdict_lowest verdict_highest s
unfolding verdict_text slice_of list_of
verdict_filled s d e = rw (digits_back s 9 1 d, digits_back s 11 1 e)

-- what a line's value and text are to each other
abbrev ValueText : List ℕ → GateLine → Type 0
ValueText s v = (v ≡ GateLine.bad → ⊥) → HasText v × (text_of_line v ≡ s)

module _ (s : List ℕ) where
  open_text_lem : headed open_lowest open_highest s ≡ true → ValueText s (GateLine.opening (spelled 1 (drop 6 s)) (spelled 8 (drop 8 s)) (bytes_in (hex_from 17 s)))
  unfolding text_of_line all
  open_text_lem e n =
      let mode = digits_in_lem open_lowest open_highest s e 6 1 refl in
      let date = digits_in_lem open_lowest open_highest s e 8 8 refl in (
        (digits_lt s 6 1 mode, digits_lt s 8 8 date, bytes_back open_lowest open_highest s e),
        text_back open_lowest open_highest s e (open_text (spelled 1 (drop 6 s)) (spelled 8 (drop 8 s))) (open_filled s mode date),
      )

  answer_text_lem : headed answer_opens answer_opens s ≡ true → ValueText s (GateLine.answer (bytes_in (hex_from 8 s)))
  unfolding text_of_line list_of
  answer_text_lem e n = (bytes_back answer_opens answer_opens s e, text_back answer_opens answer_opens s e answer_opens refl)

  verdict_text_lem : headed verdict_lowest verdict_highest s ≡ true → ValueText s (GateLine.verdict (spelled 1 (drop 9 s)) (spelled 1 (drop 11 s)) (bytes_in (hex_from 13 s)))
  unfolding text_of_line all
  verdict_text_lem e n =
      let kind = digits_in_lem verdict_lowest verdict_highest s e 9 1 refl in
      let yes_no = digits_in_lem verdict_lowest verdict_highest s e 11 1 refl in (
        (digits_lt s 9 1 kind, digits_lt s 11 1 yes_no, bytes_back verdict_lowest verdict_highest s e),
        text_back verdict_lowest verdict_highest s e (verdict_text (spelled 1 (drop 9 s)) (spelled 1 (drop 11 s))) (verdict_filled s kind yes_no),
      )

  card_text_lem : good_card s ≡ true → ValueText s (GateLine.card (line_key s))
  unfolding text_of_line
  card_text_lem e n = (card_small s e, card_key s e)

  bad_text : ValueText s GateLine.bad
  bad_text n = absurd (n refl)

  value_text : ValueText s (line_in s)
  unfolding line_in call_in
  value_text =
      by_case (ValueText s) _ _ (ltb longest (length s)) (λ e. bad_text)
      (λ e. by_case (ValueText s) _ _ (good_card s) card_text_lem
      (λ e. by_case (ValueText s) _ _ (headed open_lowest open_highest s) open_text_lem
      (λ e. by_case (ValueText s) _ _ (headed answer_opens answer_opens s) answer_text_lem
      (λ e. by_case (ValueText s) _ _ (headed verdict_lowest verdict_highest s) verdict_text_lem (λ e. bad_text)))))

-- a line that is not bad is the text of its value, that value has a text, and the line is not too long
pub text_read : (s : List ℕ) (v : GateLine) → line_in s ≡ v → (v ≡ GateLine.bad → ⊥) → HasText v × (text_of_line v ≡ s) × (length s ≤ longest)
text_read s v e n = let t = subst (ValueText s) e (value_text s) n in (t.0, t.1, line_short s (λ z. n (sym e ∙ z)))

-- ---- the text of a value that has one is read as that value

spelled_text : (p q : List ℕ) (n x : ℕ) → x < 10 ^ n → spelled n (drop (length p) (p ++ digits_of n x ++ q)) ≡ x
spelled_text p q n x h =
    ap (spelled n) (ap (drop (length p)) (append_assoc p (digits_of n x) q) ∙ drop-append_seam p (digits_of n x ++ q))
    ∙ spelled-append n (digits_of n x) q (length-digits_of n x) ∙ spelled-digits n x ∙ mod-eq_of_lt h

-- HEX after a head
module _ (head bytes : List ℕ) where
  length_after : length (with_hex head bytes) ≡ length head + 2 * length bytes + 1
  unfolding with_hex
  length_after = rw (length-append, length-append, length_hex bytes)

  take_after : take (length head) (with_hex head bytes) ≡ head
  unfolding with_hex
  take_after = rw append_assoc (take-append_seam head (hex_of bytes ++ (0x29 ∷ [])))

  hex_after : hex_from (length head) (with_hex head bytes) ≡ hex_of bytes
  unfolding hex_from with_hex
  hex_after =
      let e : length (with_hex head bytes) - (length head + 1) ≡ length (hex_of bytes) = omega (arith, length_after, length_hex bytes) in
      rw (e, append_assoc, drop-append_seam head (hex_of bytes ++ (0x29 ∷ []))) (take-append_seam (hex_of bytes) (0x29 ∷ []))

  last_after : get_or (with_hex head bytes) (length (with_hex head bytes) - 1) 0 ≡ 0x29
  unfolding with_hex
  last_after =
      get_or_at (head ++ hex_of bytes) 0x29 [] 0 (length (with_hex head bytes) - 1) (length-append head (hex_of bytes) ∙ omega (arith, length_after, length_hex bytes))

  bytes_after : SomeBytes bytes → bytes_in (hex_from (length head) (with_hex head bytes)) ≡ bytes
  bytes_after w = ap bytes_in hex_after ∙ bytes_hex bytes (λ i h. w.1 i)

  headed_after : (lo hi : List ℕ) → between lo hi head ≡ true → 1 ≤ length bytes → headed lo hi (with_hex head bytes) ≡ true
  unfolding headed
  headed_after lo hi good h =
      let e : length lo ≡ length head = sym (between_at_lem lo hi head good).0 in
      rw (
        e,
        le-leb (length head + 3) (length (with_hex head bytes)) (omega (arith, length_after)),
        take_after,
        good,
        hex_after,
        hex_is_hex bytes,
        last_after,
      )

-- the heads have their forms
open_form : (mode date : ℕ) → between open_lowest open_highest (open_text mode date) ≡ true
unfolding between between_at open_text digits_of list_of all
open_form mode date = simp (digit_least, digit_most)

answer_form : between answer_opens answer_opens answer_opens ≡ true
unfolding between between_at all
answer_form = refl

verdict_form : (kind yes_no : ℕ) → between verdict_lowest verdict_highest (verdict_text kind yes_no) ≡ true
unfolding between between_at verdict_text digits_of list_of all
verdict_form kind yes_no = simp (digit_least, digit_most)

-- a line of another form: its second byte tells the forms apart
other_card_lem : (s : List ℕ) → (get_or s 1 0 ≡ 0x63 → ⊥) → good_card s ≡ false
unfolding good_card card_text
other_card_lem s n = by (good_card s) refl
  where
    by : (b : Bool) → good_card s ≡ b → b ≡ false
    by true e = absurd (n (between_mark (card_text 0) (card_text 9999999999999999) s e 1 refl))
    by false e = refl

other_head : (lo hi s : List ℕ) → 1 < length lo → get_or lo 1 0 ≡ get_or hi 1 0 → (get_or s 1 0 ≡ get_or lo 1 0 → ⊥) → headed lo hi s ≡ false
other_head lo hi s h q n = by (headed lo hi s) refl
  where
    by : (b : Bool) → headed lo hi s ≡ b → b ≡ false
    by true e = absurd (n (omega (arith, q, at_place lo hi s e 1 h)))
    by false e = refl

-- the parts of the text of each form
abbrev closed : List ℕ → List ℕ
closed bytes = hex_of bytes ++ (0x29 ∷ [])

open_parts : (mode date : ℕ) (aid : List ℕ) → mode < 10 → date < 10 ^ 8 → SomeBytes aid
    → let s = with_hex (open_text mode date) aid in
    (spelled 1 (drop 6 s) ≡ mode) × (spelled 8 (drop 8 s) ≡ date) × (bytes_in (hex_from 17 s) ≡ aid) × (get_or s 1 0 ≡ 0x6F)
unfolding with_hex open_text digits_of list_of
open_parts mode date aid h k w = (
  spelled_text open_name (space ++ digits_of 8 date ++ space ++ closed aid) 1 mode h,
  spelled_text (open_name ++ digits_of 1 mode ++ space) (space ++ closed aid) 8 date k,
  bytes_after (open_text mode date) aid w,
  refl,
)

verdict_parts : (kind yes_no : ℕ) (fascn : List ℕ) → kind < 10 → yes_no < 10 → SomeBytes fascn
    → let s = with_hex (verdict_text kind yes_no) fascn in
    (spelled 1 (drop 9 s) ≡ kind) × (spelled 1 (drop 11 s) ≡ yes_no) × (bytes_in (hex_from 13 s) ≡ fascn) × (get_or s 1 0 ≡ 0x76)
unfolding with_hex verdict_text digits_of list_of
verdict_parts kind yes_no fascn h k w = (
  spelled_text verdict_name (space ++ digits_of 1 yes_no ++ space ++ closed fascn) 1 kind h,
  spelled_text (verdict_name ++ digits_of 1 kind ++ space) (space ++ closed fascn) 1 yes_no k,
  bytes_after (verdict_text kind yes_no) fascn w,
  refl,
)

answer_second : (bytes : List ℕ) → get_or (with_hex answer_opens bytes) 1 0 ≡ 0x61
unfolding with_hex
answer_second bytes = refl

-- a value that has a text, of at most 1,024 bytes, is read from it
pub read_text : (v : GateLine) → HasText v → length (text_of_line v) ≤ longest → line_in (text_of_line v) ≡ v
unfolding line_in call_in text_of_line
read_text (GateLine.card key) w l = rw (le-ltb longest (length (card_text key)) l, card_good key, key_card key w)
read_text (GateLine.opening mode date aid) w l =
    let s = with_hex (open_text mode date) aid in
    let p = open_parts mode date aid w.0 w.1 w.2 in
    rw (
      le-ltb longest (length s) l,
      other_card_lem s (λ e. omega (arith, e, p.3)),
      headed_after (open_text mode date) aid open_lowest open_highest (open_form mode date) w.2.0,
      p.0,
      p.1,
      p.2,
    )
read_text (GateLine.answer bytes) w l =
    let s = with_hex answer_opens bytes in
    rw (
      le-ltb longest (length s) l,
      other_card_lem s (λ e. omega (arith, e, answer_second bytes)),
      other_head open_lowest open_highest s (lit< tt) refl (λ e. omega (arith, e, answer_second bytes)),
      headed_after answer_opens bytes answer_opens answer_opens answer_form w.0,
      bytes_after answer_opens bytes w,
    )
read_text (GateLine.verdict kind yes_no fascn) w l =
    let s = with_hex (verdict_text kind yes_no) fascn in
    let p = verdict_parts kind yes_no fascn w.0 w.1 w.2 in
    rw (
      le-ltb longest (length s) l,
      other_card_lem s (λ e. omega (arith, e, p.3)),
      other_head open_lowest open_highest s (lit< tt) refl (λ e. omega (arith, e, p.3)),
      other_head answer_opens answer_opens s (lit< tt) refl (λ e. omega (arith, e, p.3)),
      headed_after (verdict_text kind yes_no) fascn verdict_lowest verdict_highest (verdict_form kind yes_no) w.2.0,
      p.0,
      p.1,
      p.2,
    )
read_text GateLine.bad w l = absurd w
