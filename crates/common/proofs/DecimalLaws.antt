-- Decimal digits in ASCII: what they spell is the number of their values; n digits of a number are digits and spell it
-- again, where it has no more; n digits are those of the number that they spell; a zero in front tells nothing.
-- Assumes nothing.
use mathlib.Core.Path.{◌≡◌, refl, ap, ◌∙◌}
use mathlib.Core.Bool.{true}
use mathlib.Core.List.{List, ◌∷◌, ◌++◌}
use Prim.Native.Nat.{ℕ, zero, suc, ◌+◌, ◌-◌, ◌*◌, ◌/◌, ◌%◌, ◌^◌, ◌≤◌, ◌<◌}
use native.Mathlib.Nat.{zero-add, zero-mul, pow-suc, pow-le-pow_right}
use native.Mathlib.Omega.{arith}
use borrow.Author.Tests.{leb-true, le-leb}
use lib.Dec.{leb, lit<}
use lib.ListN.{length, get_or, get_or-append, get_or-map}
use Rattle.common.specs.Lists.{list_of, all, number}
use Rattle.common.specs.Decimal.{is_digit_at, digit_values, spelled, digit_of, digits_of}
use Rattle.common.proofs.TestLaws.{and_parts, and_both}
use Rattle.common.proofs.ListsLaws.{all_at, all_of, get_or_list_of, length-list_of, list_of_is, list_of_ext}
use Rattle.common.proofs.NumberLaws.{number_ext, number_lt, number_digit, number-mod, number_more, number_append}

-- what digits spell is the number of their values
pub number_values : (n : ℕ) (s : List ℕ) → number 10 n (λ k. get_or (digit_values s) k 0) ≡ spelled n s
unfolding spelled
number_values n s = number_ext 10 n (λ k h. get_or-map (λ x. x % 16) s k 0)

-- ---- the digits of a number

pub digit_least : (n x k : ℕ) → leb 48 (digit_of n x k) ≡ true
unfolding digit_of
digit_least n x k = le-leb 48 (digit_of n x k) (omega arith)

pub digit_most : (n x k : ℕ) → leb (digit_of n x k) 57 ≡ true
unfolding digit_of
digit_most n x k = le-leb (digit_of n x k) 57 (omega arith)

pub length-digits_of : (n x : ℕ) → length (digits_of n x) ≡ n
unfolding digits_of
length-digits_of n x = length-list_of n (digit_of n x)

pub digits_are : (n x : ℕ) → all n (is_digit_at (digits_of n x)) ≡ true
unfolding digits_of is_digit_at
digits_are n x = all_of _ n (λ k h. rw (get_or_list_of n (digit_of n x) k h) (and_both (digit_least n x k) (digit_most n x k)))

-- they spell the number, as far as it has no more
pub spelled-digits : (n x : ℕ) → spelled n (digits_of n x) ≡ x % 10 ^ n
unfolding digits_of spelled digit_of
spelled-digits n x = number_ext 10 n digit ∙ number-mod 10 n x (lit< tt)
  where
    value : (y : ℕ) → (48 + y % 10) % 16 ≡ y % 10
    value y = omega arith

    digit : (k : ℕ) → k < n → get_or (list_of n (digit_of n x)) k 0 % 16 ≡ x / 10 ^ (n - suc k) % 10
    digit k h =
        let e : n - 1 - k ≡ n - suc k = omega arith in
        rw (get_or_list_of n (digit_of n x) k h, e) (value (x / 10 ^ (n - suc k)))

-- ---- digits

-- an ASCII digit
pub digit_at : (n : ℕ) (s : List ℕ) → all n (is_digit_at s) ≡ true → (k : ℕ) → k < n → (48 ≤ get_or s k 0) × (get_or s k 0 ≤ 57)
unfolding is_digit_at
digit_at n s p k h =
    let q = and_parts (leb 48 (get_or s k 0)) (leb (get_or s k 0) 57) (all_at (is_digit_at s) n p k h) in
    (leb-true 48 (get_or s k 0) q.0, leb-true (get_or s k 0) 57 q.1)

module _ (n : ℕ) (s : List ℕ) (p : all n (is_digit_at s) ≡ true) where
  pub spelled-small : spelled n s < 10 ^ n
  unfolding spelled
  spelled-small = number_lt 10 n (λ k. get_or s k 0 % 16) (λ k h. omega (arith, digit_at n s p k h))

  -- they are the digits of the number that they spell
  pub front_spelled : digits_of n (spelled n s) ≡ list_of n (λ k. get_or s k 0)
  unfolding digits_of spelled digit_of
  front_spelled = list_of_ext n digit
    where
      digit : (k : ℕ) → k < n → digit_of n (spelled n s) k ≡ get_or s k 0
      digit k h =
          let f : n - 1 - k ≡ n - suc k = omega arith in
          rw (f, number_digit 10 n (λ k. get_or s k 0 % 16) (λ k h. omega (arith, digit_at n s p k h)) k h) (omega (arith, digit_at n s p k h))

  pub digits-spelled : length s ≡ n → digits_of n (spelled n s) ≡ s
  digits-spelled e = front_spelled ∙ list_of_is n (λ k. get_or s k 0) s e (λ k h. refl)

-- what stands after them tells nothing
pub spelled-append : (n : ℕ) (s q : List ℕ) → length s ≡ n → spelled n (s ++ q) ≡ spelled n s
unfolding spelled
spelled-append n s q e = number_ext 10 n (λ k h. ap (λ (x : ℕ). x % 16) (get_or-append s q 0 k (rw e h)))

-- ---- a loop that reads them

-- a digit more
pub spelled_more : (s : List ℕ) (n : ℕ) {w : ℕ} → w ≡ spelled n s → w * 10 + get_or s n 0 % 16 ≡ spelled (n + 1) s
unfolding spelled
spelled_more s n = number_more 10 (λ j. get_or s j 0 % 16) n

-- what is no digit may stand there before it is tested: low four bits above 9 stay below 2 * 10 ^ n
spelled_most : (n : ℕ) (s : List ℕ) → spelled n s + 2 ≤ 2 * 10 ^ n
unfolding spelled number
spelled_most zero s = omega arith
spelled_most (suc n) s = rw pow-suc (omega (arith, spelled_most n s))

pub spelled_room : (s : List ℕ) (n m : ℕ) {w : ℕ} → n ≤ m → w ≡ spelled n s → w < 2 * 10 ^ m
spelled_room s n m h e = omega (arith, e, spelled_most n s, pow-le-pow_right {n = 10} (lit< tt) {i = n} {j = m} h)

-- ---- a zero in front

pub zero_front : (n : ℕ) (s : List ℕ) → spelled (suc n) (0x30 ∷ s) ≡ spelled n s
unfolding spelled number
zero_front n s =
    let e : suc n ≡ 1 + n = omega arith in
    ap (λ (m : ℕ). number 10 m value) e ∙ number_append 10 1 n value
    ∙ rw (zero-mul (10 ^ n), zero-add) (number_ext 10 n (λ j h. let f : 1 + j ≡ suc j = omega arith in ap value f))
  where
    value : ℕ → ℕ
    value j = get_or (0x30 ∷ s) j 0 % 16
