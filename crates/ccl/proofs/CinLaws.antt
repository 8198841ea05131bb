-- The number on the back of a card: 1 to 10 digits are those of the number that they spell, and the digits of a number
-- spell it; leading zeros make no difference; an entry is refused exactly where it is empty, has more than 10 bytes or
-- holds a byte that is no digit.
-- Assumes nothing.
use mathlib.Core.Path.{◌≡◌, refl, sym, ap, ◌∙◌}
use mathlib.Core.Bool.{Bool, true, false, ◌&&◌}
use mathlib.Core.List.{List, ◌++◌}
use mathlib.Core.Logic.{◌↔◌, ◌⊎◌, inl, inr, ⊎_elim}
use Rattle.std.specs.Prelude.{Result, Ok, Err}
use Prim.Native.Nat.{ℕ, zero, suc, ◌^◌, ◌≤◌, ◌<◌}
use native.Mathlib.Nat.{mod-eq_of_lt, pow-le-pow_right, lt_of_lt_of_le}
use native.Mathlib.Omega.{arith}
use borrow.Author.Tests.{leb-true, leb-false, le-leb}
use lib.Dec.{leb, lit<}
use lib.ListN.{length, replicate}
use Rattle.common.specs.Lists.{all}
use Rattle.common.specs.Decimal.{is_digit_at, digits_of}
use Rattle.common.proofs.TestLaws.{clash, and_parts, and_both}
use Rattle.common.proofs.ListsLaws.{all_at, all-not}
use Rattle.common.proofs.DecimalLaws.{length-digits_of, digits_are, spelled-digits, spelled-small, digits-spelled, zero_front}
use Rattle.common.proofs.ConditionLaws.{accepted_by, refused_by_lem}
use Rattle.ccl.specs.Cin.{longest_cin, cin_digits, cin_of, entry_of, entry_answer}
use Rattle.ccl.specs.declared.cin.Cin.{Cin}
use Rattle.ccl.specs.declared.cin.BadEntry.{BadEntry}

-- ---- digits and number

-- 1 to 10 digits
abbrev pub CinDigits : List ℕ → Type 0
CinDigits d = (1 ≤ length d) × (length d ≤ longest_cin) × (all (length d) (is_digit_at d) ≡ true)

pub cin_parts : (d : List ℕ) → cin_digits d ≡ true → CinDigits d
unfolding cin_digits
cin_parts d p =
    let a = and_parts (leb 1 (length d) && leb (length d) 10) (all (length d) (is_digit_at d)) p in
    let b = and_parts (leb 1 (length d)) (leb (length d) 10) a.0 in
    (leb-true 1 (length d) b.0, leb-true (length d) 10 b.1, a.1)

pub cin_made : (d : List ℕ) → CinDigits d → cin_digits d ≡ true
unfolding cin_digits
cin_made d p = and_both (and_both (le-leb 1 (length d) p.0) (le-leb (length d) 10 p.1)) p.2

-- what is none is empty, has more than 10 bytes or holds a byte that is no digit
pub not_cin : (d : List ℕ) → (cin_digits d ≡ false) ↔ ((length d ≡ 0) ⊎ ((longest_cin < length d) ⊎ ((i : ℕ) × (i < length d) × (is_digit_at d i ≡ false))))
unfolding cin_digits
not_cin d = (by (leb 1 (length d)) refl (leb (length d) 10) refl (all (length d) (is_digit_at d)) refl, none)
  where
    by : (a : Bool) → leb 1 (length d) ≡ a → (b : Bool) → leb (length d) 10 ≡ b → (c : Bool) → all (length d) (is_digit_at d) ≡ c → a && b && c ≡ false
        → (length d ≡ 0) ⊎ ((10 < length d) ⊎ ((i : ℕ) × (i < length d) × (is_digit_at d i ≡ false)))
    by true p true q true r e = clash (sym e)
    by true p true q false r e = inr (inr (all-not (is_digit_at d) (length d) r))
    by true p false q c r e = inr (inl (leb-false (length d) 10 q))
    by false p b q c r e = inl (omega (arith, leb-false 1 (length d) p))

    none : (length d ≡ 0) ⊎ ((10 < length d) ⊎ ((i : ℕ) × (i < length d) × (is_digit_at d i ≡ false))) → cin_digits d ≡ false
    none w = not_so (cin_digits d) refl
      where
        not_so : (b : Bool) → cin_digits d ≡ b → cin_digits d ≡ false
        not_so true e =
            let p = cin_parts d e in
            ⊎_elim
            (λ (z : length d ≡ 0). absurd (omega (arith, p.0)))
            (⊎_elim (λ (z : 10 < length d). absurd (omega (arith, p.1))) (λ x. clash (sym x.2 ∙ all_at (is_digit_at d) (length d) p.2 x.0 x.1))) w
        not_so false e = e

-- the digits of a number, any count of them that holds it, spell it
pub cin_digits_lem : (n x : ℕ) → 1 ≤ n → n ≤ longest_cin → x < 10 ^ n → (cin_digits (digits_of n x) ≡ true) × (cin_of (digits_of n x) ≡ x)
unfolding cin_of
cin_digits_lem n x l h small =
    let e = length-digits_of n x in (
      cin_made (digits_of n x) (rw e l, rw e h, rw e (digits_are n x)),
      rw e (spelled-digits n x ∙ mod-eq_of_lt small),
    )

module _ (d : List ℕ) (p : cin_digits d ≡ true) where
  -- digits are those of the number that they spell
  pub digits_cin : digits_of (length d) (cin_of d) ≡ d
  unfolding cin_of
  digits_cin = digits-spelled (length d) d (cin_parts d p).2 refl

  -- which has at most 10 digits
  pub cin_small : cin_of d < 10 ^ longest_cin
  unfolding cin_of
  cin_small =
      lt_of_lt_of_le (spelled-small (length d) d (cin_parts d p).2) (pow-le-pow_right {n = 10} (lit< tt) {i = length d} {j = 10} (cin_parts d p).1)

-- leading zeros make no difference
pub zeros_front : (n : ℕ) (d : List ℕ) → cin_of (replicate n 0x30 ++ d) ≡ cin_of d
unfolding cin_of
zeros_front zero d = refl
zeros_front (suc n) d = zero_front (length (replicate n 0x30 ++ d)) (replicate n 0x30 ++ d) ∙ zeros_front n d

-- ---- the entry

-- what each answer of read_entry says
pub entry_typed : (s : List ℕ) (r : Result Cin BadEntry) (cin : Cin) → r ≡ Ok cin → entry_answer r ≡ entry_of s → (cin_digits s ≡ true) × (cin_of s ≡ cin.0)
unfolding entry_of
entry_typed s r cin p q = accepted_by 22 (cin_digits s) (cin_of s) cin.0 (ap entry_answer (sym p) ∙ q)

pub entry_refused : (s : List ℕ) (r : Result Cin BadEntry) (e : BadEntry) → r ≡ Err e → entry_answer r ≡ entry_of s → cin_digits s ≡ false
unfolding entry_of
entry_refused s r e p q = refused_by_lem 22 (cin_digits s) (cin_of s) (ap entry_answer (sym p) ∙ q)
