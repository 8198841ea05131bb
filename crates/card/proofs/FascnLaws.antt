-- The laws of the FASC-N: an answer's number says its case; each character follows the rule; what is packed unpacks to
-- the same digits, and what unpacks packs to the same bytes; the key.
-- Assumes nothing.
use mathlib.Core.Path.{◌≡◌, refl, sym, ap, ◌∙◌}
use mathlib.Core.Bool.{Bool, true, false, cond, not, ◌&&◌}
use mathlib.Core.List.{List, [], ◌∷◌}
use Prim.Native.Nat.{ℕ, ◌^◌, ◌<◌}
use native.Mathlib.Omega.{arith}
use borrow.Author.Tests.{eqb-true, leb-true, eq-eqb}
use lib.Dec.{eqb}
use lib.ListN.{length, get_or}
use Rattle.common.specs.Lists.{all}
use Rattle.common.specs.Refusal.{refusal_of}
use Rattle.card.specs.Fascn.{char_bit_at, value_at, odd_at, ByRule, values_in, bytes_of, digits_in, marks_in, decimal_at, check_value, values_of, unpack_refusal, unpack_answer, unpack_of, pack_refusal, pack_of, key_of, unpack_number}
use Rattle.card.specs.FascnCode.{check_digits}
use Rattle.std.specs.Prelude.{Result, Ok, Err}
use Rattle.common.specs.Refusal.{number_in}
use Rattle.card.specs.declared.fascn.UnpackError.{UnpackError}
use Rattle.card.specs.declared.fascn.UnpackError.TheVariants.{WrongLength, WrongParity, OutOfPlace, WrongCheck}
use Rattle.common.proofs.ListsLaws.{all_at, length-list_of, get_or_list_of, list_of_is}
use Rattle.common.proofs.NumberLaws.{number_lt}
use Rattle.card.proofs.CharacterLaws.{odd_by_rule, bytes_by_rule, values_bytes, odd_bytes, bytes_values}
use Rattle.card.proofs.OrderLaws.{marks_values, digits_values, value_check, length-values_of, values_small, check_digits_lem, values_digits}

length_values : (s : List ℕ) → length (values_in s) ≡ 40
unfolding values_in
length_values s = length-list_of 40 (value_at s)

pub length-bytes_of : (v : List ℕ) → length (bytes_of v) ≡ 25
unfolding bytes_of
length-bytes_of v = length-list_of 25 _

-- what unpack answers for 25 bytes, the check value taken of the digits
abbrev pub by_digits : List ℕ → ℕ × List ℕ
by_digits s =
    unpack_answer
    (refusal_of
    ((16, not (all 40 (odd_at s)))
    ∷ (17, not (marks_in (values_in s) && all 32 (decimal_at (digits_in (values_in s)))))
    ∷ (18, not (eqb (get_or (values_in s) 39 0) (check_digits (digits_in (values_in s)))))
    ∷ []))
    (digits_in (values_in s))

-- it may be: where a mark is out of place, 17 is the answer whatever the check value is
pub unpack_is : (s : List ℕ) → length s ≡ 25 → by_digits s ≡ unpack_of s
unfolding unpack_of unpack_refusal
unpack_is s e = go (marks_in (values_in s)) refl
  where
    go : (m : Bool) → marks_in (values_in s) ≡ m → by_digits s ≡ unpack_of s
    go true p = rw (eq-eqb _ _ e, check_digits_lem (values_in s) (length_values s) p)
    go false p = rw (eq-eqb _ _ e, p)

-- ---- what unpack answers

-- an answer's number says its case
unpack_case : ℕ → UnpackError
unpack_case n = cond (eqb n 15) WrongLength (cond (eqb n 16) WrongParity (cond (eqb n 17) OutOfPlace WrongCheck))

case_is : (e : UnpackError) → unpack_case (unpack_number e) ≡ e
unfolding unpack_case
case_is WrongLength = refl
case_is WrongParity = refl
case_is OutOfPlace = refl
case_is WrongCheck = refl

pub unpack_case_lem : (r : Result (List ℕ) UnpackError) (e : UnpackError) → number_in unpack_number r ≡ unpack_number e → r ≡ Err e
unpack_case_lem (Err f) e p = ap Err (sym (case_is f) ∙ ap unpack_case p ∙ case_is e)
unpack_case_lem (Ok d) WrongLength p = absurd (omega arith)
unpack_case_lem (Ok d) WrongParity p = absurd (omega arith)
unpack_case_lem (Ok d) OutOfPlace p = absurd (omega arith)
unpack_case_lem (Ok d) WrongCheck p = absurd (omega arith)

-- two errors with one number are the same, and only an accepted FASC-N has the number 0
pub unpack_error_lem : (e f : UnpackError) → unpack_number e ≡ unpack_number f → e ≡ f
unpack_error_lem e f p = sym (case_is e) ∙ ap unpack_case p ∙ case_is f

pub unpack_accepted_lem : (r : Result (List ℕ) UnpackError) → number_in unpack_number r ≡ 0 → (d : List ℕ) × (r ≡ Ok d)
unpack_accepted_lem (Ok d) p = (d, refl)
unpack_accepted_lem (Err WrongLength) p = absurd (omega arith)
unpack_accepted_lem (Err WrongParity) p = absurd (omega arith)
unpack_accepted_lem (Err OutOfPlace) p = absurd (omega arith)
unpack_accepted_lem (Err WrongCheck) p = absurd (omega arith)

-- ---- what an accepted FASC-N passed

pub record WellFormed (s : List ℕ) : Type 0 where
  pub long : length s ≡ 25
  pub odd : all 40 (odd_at s) ≡ true
  pub placed : marks_in (values_in s) ≡ true
  pub decimal : all 32 (decimal_at (digits_in (values_in s))) ≡ true
  pub check : get_or (values_in s) 39 0 ≡ check_value (values_in s)

pub well_formed_lem : (s : List ℕ) → (unpack_of s).0 ≡ 0 → WellFormed s
unfolding unpack_of unpack_refusal
well_formed_lem s p =
    go (eqb (length s) 25) (all 40 (odd_at s)) (marks_in (values_in s)) (all 32 (decimal_at (digits_in (values_in s)))) (eqb (get_or (values_in s) 39 0) (check_value (values_in s)))
    refl refl refl refl refl p
  where
    go : (a b c d e : Bool) → eqb (length s) 25 ≡ a → all 40 (odd_at s) ≡ b → marks_in (values_in s) ≡ c → all 32 (decimal_at (digits_in (values_in s))) ≡ d
        → eqb (get_or (values_in s) 39 0) (check_value (values_in s)) ≡ e
        → refusal_of ((15, not a) ∷ (16, not b) ∷ (17, not (c && d)) ∷ (18, not e) ∷ []) ≡ 0 → WellFormed s
    go true true true true true pa pb pc pd pe q = record { long = eqb-true _ _ pa; odd = pb; placed = pc; decimal = pd; check = eqb-true _ _ pe }
    go true true true true false pa pb pc pd pe q = absurd (omega arith)
    go true true true false e pa pb pc pd pe q = absurd (omega arith)
    go true true false d e pa pb pc pd pe q = absurd (omega arith)
    go true false c d e pa pb pc pd pe q = absurd (omega arith)
    go false b c d e pa pb pc pd pe q = absurd (omega arith)

-- the digits that an accepted FASC-N unpacks to
pub unpack_digits : (s : List ℕ) → (unpack_of s).0 ≡ 0 → (unpack_of s).1 ≡ digits_in (values_in s)
unfolding unpack_of
unpack_digits s p = rw (eq-eqb _ _ p)

-- ---- the rule of a character

-- each character of a FASC-N packed from digits of at most 9 follows it, with the value that stands there
pub packed_by_rule : (d : List ℕ) → all 32 (decimal_at d) ≡ true → (i : ℕ) → i < 40 → ByRule (get_or (values_of d) i 0) (char_bit_at (pack_of d).1 i)
unfolding pack_of pack_refusal
packed_by_rule d h i l = rw h (bytes_by_rule (values_of d) (values_small d h) i l)

-- and so does each of a FASC-N that unpacks
pub unpacked_by_rule : (s : List ℕ) → (unpack_of s).0 ≡ 0 → (i : ℕ) → i < 40 → ByRule (get_or (values_in s) i 0) (char_bit_at s i)
unfolding values_in
unpacked_by_rule s p i l = rw (get_or_list_of 40 (value_at s) i l) (odd_by_rule s i (all_at (odd_at s) 40 (well_formed_lem s p).odd i l))

-- ---- the two round trips

-- packed from 32 digits, it unpacks to those digits
pub pack_unpack : (d : List ℕ) → length d ≡ 32 → all 32 (decimal_at d) ≡ true → unpack_of (pack_of d).1 ≡ (0, d)
unfolding pack_of pack_refusal unpack_of unpack_refusal
pack_unpack d n h =
    let small = values_small d h in
    let v : values_in (bytes_of (values_of d)) ≡ values_of d = values_bytes (values_of d) small ∙ list_of_is 40 _ (values_of d) (length-values_of d) (λ i l. refl) in
    rw (h, eq-eqb _ _ (length-bytes_of (values_of d)), odd_bytes (values_of d) small, v, marks_values d, digits_values d n, h, eq-eqb _ _ (value_check d))

-- a FASC-N that unpacks packs to the same 25 bytes
pub unpack_pack : (s : List ℕ) → ((k : ℕ) → k < 25 → get_or s k 0 < 256) → (unpack_of s).0 ≡ 0 → pack_of (unpack_of s).1 ≡ (0, s)
unfolding pack_of pack_refusal
unpack_pack s b p =
    let w = well_formed_lem s p in
    rw (
      unpack_digits s p,
      w.decimal,
      values_digits (values_in s) (length_values s) w.placed w.check,
      bytes_values s w.odd w.long b,
    )

-- pack is injective on digits
pub pack_injective : (d e : List ℕ) → length d ≡ 32 → length e ≡ 32 → all 32 (decimal_at d) ≡ true → all 32 (decimal_at e) ≡ true
    → (pack_of d).1 ≡ (pack_of e).1 → d ≡ e
pack_injective d e n m h k p =
    ap (λ (r : ℕ × List ℕ). r.1) (sym (pack_unpack d n h) ∙ ap unpack_of p ∙ pack_unpack e m k)

-- two FASC-Ns that unpack to the same digits are the same bytes
pub unpack_injective : (s t : List ℕ) → ((k : ℕ) → k < 25 → get_or s k 0 < 256) → ((k : ℕ) → k < 25 → get_or t k 0 < 256)
    → (unpack_of s).0 ≡ 0 → (unpack_of t).0 ≡ 0 → (unpack_of s).1 ≡ (unpack_of t).1 → s ≡ t
unpack_injective s t bs bt p q e =
    ap (λ (r : ℕ × List ℕ). r.1) (sym (unpack_pack s bs p) ∙ ap pack_of e ∙ unpack_pack t bt q)

-- ---- the key

-- the key of unpacked digits is below 10 ^ 16
pub key_lt : (s : List ℕ) → (unpack_of s).0 ≡ 0 → key_of (unpack_of s).1 < 10 ^ 16
unfolding key_of decimal_at
key_lt s p =
    rw (unpack_digits s p)
    (number_lt 10 16 (λ k. get_or (digits_in (values_in s)) k 0)
    (λ k h. omega (arith, leb-true (get_or (digits_in (values_in s)) k 0) 9 (all_at (decimal_at (digits_in (values_in s))) 32 (well_formed_lem s p).decimal k (omega arith)))))
