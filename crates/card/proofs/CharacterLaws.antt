-- Characters: five bytes are eight of them, and each has the value and the parity that its bits say.
-- Assumes nothing.
use mathlib.Core.Path.{◌≡◌, sym, ap, ◌∙◌}
use mathlib.Core.Bool.{true}
use mathlib.Core.List.{List}
use Prim.Native.Nat.{ℕ, suc, ◌+◌, ◌-◌, ◌*◌, ◌/◌, ◌%◌, ◌^◌, ◌<◌}
use native.Mathlib.Nat.{mul-add, mul-one, mul_assoc, add_assoc, mul-add-div, div-eq_of_lt, div-add-mod, add-zero, mul-add-mod_self_left, mod-eq_of_lt}
use native.Mathlib.Omega.{arith}
use borrow.Author.Tests.{eqb-true}
use lib.Dec.{lit<}
use lib.ListN.{length, get_or}
use Rattle.common.specs.Lists.{list_of, all, number, written}
use Rattle.card.specs.Fascn.{bit_at, char_bit_at, value_at, odd_at, values_in, char_bit, ByRule, sent_bit, bytes_of, values_of}
use Rattle.card.specs.FascnCode.{bit_of, regrouped, odd_char, value_char, char_of, chars_in, chars_of, bytes_of_chars}
use Rattle.common.proofs.NumberLaws.{number_ext, number_lt, number_group, number_digit, number-mod, pow-mul}
use Rattle.card.proofs.RuleLaws.{value_read, odd_read, char_bit_lt, rule_same, rule_only, code_bit, code_by_rule}
use Rattle.common.proofs.ListsLaws.{all_at, all_ext, all_of, get_or_list_of, list_of_ext, list_of_is, written_ext, written_on}

bit_lt : (m : ℕ) (s : List ℕ) (p : ℕ) → bit_of m s p < 2
unfolding bit_of
bit_lt m s p = omega arith

-- bit t of number k
bit_at_lem : (m : ℕ) (s : List ℕ) (k t : ℕ) → t < m → bit_of m s (m * k + t) ≡ get_or s k 0 / 2 ^ (m - suc t) % 2
unfolding bit_of
bit_at_lem m s k t h =
    let a : (m * k + t) / m ≡ k = mul-add-div (omega arith) k t ∙ rw (div-eq_of_lt h) (add-zero k) in
    let b : (m * k + t) % m ≡ t = mul-add-mod_self_left m k t ∙ mod-eq_of_lt h in
    rw (a, b)

-- a numbers of m bits are b numbers of n bits: group g of the first, joined, has group g of the second as its digits
module _ (m n a b : ℕ) (same : m * a ≡ n * b) (s : List ℕ) (g : ℕ) where
  joined : number (2 ^ m) a (λ k. get_or s (a * g + k) 0 % 2 ^ m) ≡ number 2 (m * a) (λ q. bit_of m s (m * (a * g) + q))
  joined =
      number_ext (2 ^ m) a (λ k h. sym (number-mod 2 m (get_or s (a * g + k) 0) (lit< tt)) ∙ number_ext 2 m (λ t l. sym (bit k t l)))
      ∙ number_group 2 m a (λ q. bit_of m s (m * (a * g) + q))
    where
      bit : (k t : ℕ) → t < m → bit_of m s (m * (a * g) + (m * k + t)) ≡ get_or s (a * g + k) 0 / 2 ^ (m - suc t) % 2
      bit k t l = rw (← add_assoc, ← mul-add) (bit_at_lem m s (a * g + k) t l)

  pub regrouped_digit : (j : ℕ) → j < b → number (2 ^ m) a (λ k. get_or s (a * g + k) 0 % 2 ^ m) / 2 ^ (n * (b - 1 - j)) % 2 ^ n ≡ regrouped m n s (b * g + j)
  unfolding regrouped
  regrouped_digit j h =
      let f : ℕ → ℕ = λ q. bit_of m s (m * (a * g) + q) in
      let r : b - 1 - j ≡ b - suc j = omega arith in
      rw (joined, same, ← number_group 2 n b f, r, ← pow-mul 2 n (b - suc j))
      (number_digit (2 ^ n) b (λ j. number 2 n (λ t. f (n * j + t))) (λ i l. number_lt 2 n (λ t. f (n * i + t)) (λ t k. bit_lt m s _)) j h
      ∙ number_ext 2 n (λ t l. ap (bit_of m s) (place t)))
    where
      place : (t : ℕ) → m * (a * g) + (n * j + t) ≡ n * (b * g + j) + t
      place t = rw (mul-add, ← mul_assoc m a g, same, mul_assoc n b g, add_assoc)

  -- a turn of a loop over the groups: the numbers of group g, joined as w, are written after those of the groups before
  pub regrouped_back : (l : List ℕ) {c c' : List ℕ} {w : ℕ} → w ≡ number (2 ^ m) a (λ k. get_or s (a * g + k) 0 % 2 ^ m) → c ≡ written l 0 (b * g) (regrouped m n s)
      → c' ≡ written c (b * g) b (λ j. w / 2 ^ (n * (b - 1 - j)) % 2 ^ n) → c' ≡ written l 0 (b * (g + 1)) (regrouped m n s)
  regrouped_back l p q r =
      r ∙ rw (p, q, mul-add, mul-one) (written_ext (written l 0 (b * g) (regrouped m n s)) (b * g) b regrouped_digit ∙ written_on l (b * g) b (regrouped m n s))

-- ---- characters and their bits

bit_is : (s : List ℕ) (p : ℕ) → bit_of 8 s p ≡ bit_at s p
unfolding bit_of bit_at
bit_is s p = let e : 8 - suc (p % 8) ≡ 7 - p % 8 = omega arith in rw e

pub bit_at_lt : (s : List ℕ) (p : ℕ) → bit_at s p < 2
unfolding bit_at
bit_at_lt s p = omega arith

-- ---- the characters of some bytes

module _ (s : List ℕ) (i : ℕ) where
  char_is : regrouped 8 5 s i ≡ number 2 5 (char_bit_at s i)
  unfolding regrouped
  char_is = number_ext 2 5 (λ j h. bit_is s (5 * i + j))

  value_char_lem : value_char (regrouped 8 5 s i) ≡ value_at s i
  unfolding value_at
  value_char_lem = ap (λ (c : ℕ). value_char c) char_is ∙ rw add-zero at (value_read (char_bit_at s i) (λ j h. bit_at_lt s _))

  odd_char_lem : odd_char (regrouped 8 5 s i) ≡ odd_at s i
  unfolding odd_at
  odd_char_lem = ap (λ (c : ℕ). odd_char c) char_is ∙ rw add-zero at (odd_read (char_bit_at s i) (λ j h. bit_at_lt s _))

  -- where its parity is odd, its bits follow the rule
  pub odd_by_rule : odd_at s i ≡ true → ByRule (value_at s i) (char_bit_at s i)
  unfolding value_at odd_at
  odd_by_rule h = record { binary = λ j l. bit_at_lt s _; value = rw add-zero; odd = rw add-zero (eqb-true _ 1 h) }

pub values_chars : (s : List ℕ) → list_of 40 (λ i. value_char (get_or (chars_in s) i 0)) ≡ values_in s
unfolding chars_in values_in
values_chars s = list_of_ext 40 (λ i h. ap (λ (c : ℕ). value_char c) (get_or_list_of 40 (regrouped 8 5 s) i h) ∙ value_char_lem s i)

pub odd_chars : (s : List ℕ) → all 40 (λ i. odd_char (get_or (chars_in s) i 0)) ≡ all 40 (odd_at s)
unfolding chars_in
odd_chars s = all_ext 40 (λ i h. ap (λ (c : ℕ). odd_char c) (get_or_list_of 40 (regrouped 8 5 s) i h) ∙ odd_char_lem s i)

-- ---- the bytes of some values

-- the bytes of the characters of a FASC-N are those of its values
pub bytes_chars : (d : List ℕ) → bytes_of_chars (chars_of d) ≡ bytes_of (values_of d)
unfolding bytes_of_chars bytes_of regrouped bit_of chars_of sent_bit
bytes_chars d = list_of_ext 25 (λ k h. number_ext 2 8 (λ j l. bit (8 * k + j) (omega arith)))
  where
    bit : (p : ℕ) → p < 200 → bit_of 5 (chars_of d) p ≡ sent_bit (values_of d) p
    bit p h =
        rw (get_or_list_of 40 (λ i. char_of (get_or (values_of d) i 0)) (p / 5) (omega arith)) (code_bit (get_or (values_of d) (p / 5) 0) (p % 5) (omega arith))

bit_bytes : (v : List ℕ) (p : ℕ) → p < 200 → bit_at (bytes_of v) p ≡ sent_bit v p
unfolding bit_of bytes_of sent_bit
bit_bytes v p h =
    sym (bit_is (bytes_of v) p)
    ∙ rw (get_or_list_of 25 (λ k. number 2 8 (λ j. sent_bit v (8 * k + j))) (p / 8) (omega arith))
    (number_digit 2 8 (λ j. sent_bit v (8 * (p / 8) + j)) (λ j l. char_bit_lt _ _) (p % 8) (omega arith) ∙ ap (sent_bit v) (div-add-mod p 8))

module _ (v : List ℕ) (i : ℕ) (h : i < 40) where
  sent : (j : ℕ) → j < 5 → char_bit_at (bytes_of v) i j ≡ char_bit (get_or v i 0) j
  unfolding sent_bit
  sent j l =
      let a : (5 * i + j) / 5 ≡ i = omega arith in
      let b : (5 * i + j) % 5 ≡ j = omega arith in
      rw (a, b) at (bit_bytes v (5 * i + j) (omega arith))

  -- character i of them is the one that the code works out
  char_bytes : regrouped 8 5 (bytes_of v) i ≡ char_of (get_or v i 0)
  unfolding char_of
  char_bytes = char_is (bytes_of v) i ∙ number_ext 2 5 sent

-- where each of them is one of the 16 values, each character follows the rule and reads back
module _ (v : List ℕ) (small : (i : ℕ) → i < 40 → get_or v i 0 < 16) where
  pub bytes_by_rule : (i : ℕ) → i < 40 → ByRule (get_or v i 0) (char_bit_at (bytes_of v) i)
  bytes_by_rule i h = rule_same (λ j l. sent v i h j l ∙ sym (code_bit (get_or v i 0) j l)) (code_by_rule (get_or v i 0) (small i h)).0

  pub values_bytes : values_in (bytes_of v) ≡ list_of 40 (λ i. get_or v i 0)
  unfolding values_in
  values_bytes = list_of_ext 40 (λ i h. sym (value_char_lem (bytes_of v) i) ∙ ap (λ (c : ℕ). value_char c) (char_bytes v i h) ∙ (code_by_rule (get_or v i 0) (small i h)).1)

  pub odd_bytes : all 40 (odd_at (bytes_of v)) ≡ true
  odd_bytes =
      all_of (odd_at (bytes_of v)) 40 (λ i h. sym (odd_char_lem (bytes_of v) i) ∙ ap (λ (c : ℕ). odd_char c) (char_bytes v i h) ∙ (code_by_rule (get_or v i 0) (small i h)).2)

-- ---- the bytes of the values of some bytes

module _ (s : List ℕ) (odd : all 40 (odd_at s) ≡ true) where
  sent_in : (p : ℕ) → p < 200 → sent_bit (values_in s) p ≡ bit_at s p
  unfolding sent_bit values_in
  sent_in p h =
      let i = p / 5 in
      rw (get_or_list_of 40 (value_at s) i (omega arith))
      (rule_only (value_at s i) (char_bit_at s i) (odd_by_rule s i (all_at (odd_at s) 40 odd i (omega arith))) (p % 5) (omega arith)
      ∙ ap (bit_at s) (div-add-mod p 5))

  pub bytes_values : length s ≡ 25 → ((k : ℕ) → k < 25 → get_or s k 0 < 256) → bytes_of (values_in s) ≡ s
  unfolding bytes_of
  bytes_values e b =
      list_of_is 25 _ s e
      (λ k h.
      number_ext 2 8 (λ j l. sent_in (8 * k + j) (omega arith) ∙ sym (bit_is s (8 * k + j)) ∙ bit_at_lem 8 s k j l) ∙ number-mod 2 8 (get_or s k 0) (lit< tt)
      ∙ mod-eq_of_lt (b k h))
