-- Hexadecimal: what is written is read back, what is read is written back, and what stands in a buffer after either.
-- Assumes nothing.
use mathlib.Core.Path.{◌≡◌, refl, ap, ◌∙◌}
use mathlib.Core.Bool.{Bool, true, false, cond, ◌&&◌, and-eq-true_iff}
use mathlib.Core.List.{List}
use Prim.Native.Nat.{ℕ, ◌+◌, ◌*◌, ◌-◌, ◌/◌, ◌%◌, ◌<◌}
use native.Mathlib.Omega.{arith}
use borrow.Author.Tests.{leb-true, ltb-true, ltb-false, eqb-true, eqb-false, lt-ltb, le-ltb, le-leb, lt-leb, eq-eqb, ne_eqb}
use lib.Dec.{eqb, leb, ltb, lit<}
use lib.ListN.{length, get_or, take, get_or-eq_default}
use lib.Seq.{take_at}
use Rattle.common.specs.Lists.{list_of, all, written, over_front}
use Rattle.common.proofs.ListsLaws.{all_at, all_of, length-list_of, get_or_list_of, list_of_is, front_written}
use Rattle.text.specs.Hex.{digit_value, is_hex, byte_at, bytes_in, hex_digit, hex_digit_at, hex_of}

-- ---- digits

pub digit_value_lem : (x : ℕ) → digit_value (hex_digit x) ≡ x % 16
unfolding digit_value hex_digit
digit_value_lem x = by (x % 16) (ltb (x % 16) 10) refl (omega arith)
  where
    by : (h : ℕ) (b : Bool) → ltb h 10 ≡ b → h < 16 → digit_value (cond b (h + 48) (h + 55)) ≡ h
    by h true e l = let k = ltb-true h 10 e in rw (le-leb 48 (h + 48) (omega arith), le-leb (h + 48) 57 (omega arith)) (omega arith)
    by h false e l =
        let k = ltb-false h 10 e in
        rw (lt-leb (h + 55) 57 (omega arith), le-leb 48 (h + 55) (omega arith), le-leb 65 (h + 55) (omega arith), le-leb (h + 55) 70 (omega arith)) (omega arith)

pub value_digit : (x : ℕ) → digit_value x < 16 → hex_digit (digit_value x) ≡ x
unfolding digit_value hex_digit
value_digit x h = by (leb 48 x && leb x 57) (leb 65 x && leb x 70) refl refl h
  where
    by : (a b : Bool) → leb 48 x && leb x 57 ≡ a → leb 65 x && leb x 70 ≡ b → cond a (x - 48) (cond b (x - 55) 16) < 16
        → hex_digit (cond a (x - 48) (cond b (x - 55) 16)) ≡ x
    by true b p q l =
        let k = (and-eq-true_iff (leb 48 x) (leb x 57)).0 p in
        let m = leb-true 48 x k.0 in
        let n = leb-true x 57 k.1 in
        rw (lt-ltb ((x - 48) % 16) 10 (omega arith)) (omega arith)
    by false true p q l =
        let k = (and-eq-true_iff (leb 65 x) (leb x 70)).0 q in
        let m = leb-true 65 x k.0 in
        let n = leb-true x 70 k.1 in
        rw (le-ltb ((x - 55) % 16) 10 (omega arith)) (omega arith)
    by false false p q l = absurd (omega arith)

-- the digits of two values joined
digit_high : (a b : ℕ) → hex_digit ((a % 16 * 16 + b % 16) / 16) ≡ hex_digit a
unfolding hex_digit
digit_high a b = let e : (a % 16 * 16 + b % 16) / 16 % 16 ≡ a % 16 = omega arith in rw e

digit_low : (a b : ℕ) → hex_digit (a % 16 * 16 + b % 16) ≡ hex_digit b
unfolding hex_digit
digit_low a b = let e : (a % 16 * 16 + b % 16) % 16 ≡ b % 16 = omega arith in rw e

-- ---- bytes

pub byte_small : (s : List ℕ) (i : ℕ) → byte_at s i < 256
unfolding byte_at
byte_small s i = omega arith

pub length_bytes_lem : (s : List ℕ) → length (bytes_in s) ≡ length s / 2
unfolding bytes_in
length_bytes_lem s = length-list_of (length s / 2) (byte_at s)

byte_in : (s : List ℕ) (i : ℕ) → i < length s / 2 → get_or (bytes_in s) i 0 ≡ byte_at s i
unfolding bytes_in
byte_in s i h = get_or_list_of (length s / 2) (byte_at s) i h

pub bytes_small : (s : List ℕ) (i : ℕ) → get_or (bytes_in s) i 0 < 256
bytes_small s i = by (ltb i (length s / 2)) refl
  where
    by : (b : Bool) → ltb i (length s / 2) ≡ b → get_or (bytes_in s) i 0 < 256
    by true e = rw (byte_in s i (ltb-true i (length s / 2) e)) (byte_small s i)
    by false e = rw (get_or-eq_default (bytes_in s) 0 {n = i} (rw (length_bytes_lem s) (ltb-false i (length s / 2) e))) (lit< tt)

pub length_hex : (s : List ℕ) → length (hex_of s) ≡ 2 * length s
unfolding hex_of
length_hex s = length-list_of (2 * length s) (hex_digit_at s)

hex_in : (s : List ℕ) (i : ℕ) → i < 2 * length s → get_or (hex_of s) i 0 ≡ hex_digit_at s i
unfolding hex_of
hex_in s i h = get_or_list_of (2 * length s) (hex_digit_at s) i h

-- ---- written, then read

-- a digit written is a digit
at_value : (s : List ℕ) (i : ℕ) → digit_value (hex_digit_at s i) < 16
unfolding hex_digit_at
at_value s i = by (eqb (i % 2) 0) (get_or s (i / 2) 0 / 16) (get_or s (i / 2) 0)
  where
    by : (b : Bool) (x y : ℕ) → digit_value (cond b (hex_digit x) (hex_digit y)) < 16
    by true x y = rw (digit_value_lem x) (omega arith)
    by false x y = rw (digit_value_lem y) (omega arith)

pub hex_is_hex : (s : List ℕ) → is_hex (hex_of s) ≡ true
unfolding is_hex
hex_is_hex s =
    rw (
      length_hex s,
      eq-eqb (2 * length s % 2) 0 (omega arith),
      all_of (λ i. ltb (digit_value (get_or (hex_of s) i 0)) 16) (2 * length s) (λ i h. lt-ltb (digit_value (get_or (hex_of s) i 0)) 16 (rw (hex_in s i h) (at_value s i))),
    )

-- the digits of byte i, the higher and the lower
high : (s : List ℕ) (i : ℕ) → hex_digit_at s (2 * i) ≡ hex_digit (get_or s i 0 / 16)
unfolding hex_digit_at
high s i = let e : 2 * i / 2 ≡ i = omega arith in rw (eq-eqb (2 * i % 2) 0 (omega arith), e)

low : (s : List ℕ) (i : ℕ) → hex_digit_at s (2 * i + 1) ≡ hex_digit (get_or s i 0)
unfolding hex_digit_at
low s i = let e : (2 * i + 1) / 2 ≡ i = omega arith in rw (ne_eqb ((2 * i + 1) % 2) 0 (λ z. omega arith), e)

-- what is written is read back
pub bytes_hex : (s : List ℕ) → ((i : ℕ) → i < length s → get_or s i 0 < 256) → bytes_in (hex_of s) ≡ s
unfolding bytes_in byte_at
bytes_hex s small =
    list_of_is (length (hex_of s) / 2) (byte_at (hex_of s)) s (omega (arith, length_hex s)) (λ i h. again i (omega (arith, h, length_hex s)))
  where
    join : (x : ℕ) → x < 256 → x / 16 % 16 % 16 * 16 + x % 16 % 16 ≡ x
    join x h = omega arith

    again : (i : ℕ) → i < length s → byte_at (hex_of s) i ≡ get_or s i 0
    again i h =
        rw (hex_in s (2 * i) (omega arith), hex_in s (2 * i + 1) (omega arith), high s i, low s i, digit_value_lem (get_or s i 0 / 16), digit_value_lem (get_or s i 0))
        (join (get_or s i 0) (small i h))

-- ---- read, then written

-- what is read is written back
pub hex_bytes : (s : List ℕ) → is_hex s ≡ true → hex_of (bytes_in s) ≡ s
unfolding is_hex hex_of byte_at
hex_bytes s p = list_of_is (2 * length (bytes_in s)) (hex_digit_at (bytes_in s)) s even (λ i h. digit i (eqb (i % 2) 0) refl (omega (arith, h, length_bytes_lem s)))
  where
    tests : (all (length s) (λ i. ltb (digit_value (get_or s i 0)) 16) ≡ true) × (eqb (length s % 2) 0 ≡ true)
    tests = (and-eq-true_iff (all (length s) (λ i. ltb (digit_value (get_or s i 0)) 16)) (eqb (length s % 2) 0)).0 p

    even : length s ≡ 2 * length (bytes_in s)
    even = omega (arith, length_bytes_lem s, eqb-true (length s % 2) 0 tests.1)

    again : (i : ℕ) → i < length s → hex_digit (digit_value (get_or s i 0)) ≡ get_or s i 0
    again i h =
        value_digit (get_or s i 0) (ltb-true (digit_value (get_or s i 0)) 16 (all_at (λ i. ltb (digit_value (get_or s i 0)) 16) (length s) tests.0 i h))

    first : (i : ℕ) → i < length s / 2 → hex_digit_at (bytes_in s) (2 * i) ≡ get_or s (2 * i) 0
    first i h =
        high (bytes_in s) i ∙ ap (λ (x : ℕ). hex_digit (x / 16)) (byte_in s i h) ∙ digit_high (digit_value (get_or s (2 * i) 0)) (digit_value (get_or s (2 * i + 1) 0))
        ∙ again (2 * i) (omega arith)

    second : (i : ℕ) → i < length s / 2 → hex_digit_at (bytes_in s) (2 * i + 1) ≡ get_or s (2 * i + 1) 0
    second i h =
        low (bytes_in s) i ∙ ap hex_digit (byte_in s i h) ∙ digit_low (digit_value (get_or s (2 * i) 0)) (digit_value (get_or s (2 * i + 1) 0))
        ∙ again (2 * i + 1) (omega arith)

    digit : (i : ℕ) (b : Bool) → eqb (i % 2) 0 ≡ b → i < 2 * (length s / 2) → hex_digit_at (bytes_in s) i ≡ get_or s i 0
    digit i true p h =
        let e : 2 * (i / 2) ≡ i = omega (arith, eqb-true (i % 2) 0 p) in
        rw e at (first (i / 2) (omega arith))
    digit i false p h =
        let e : 2 * (i / 2) + 1 ≡ i = omega (arith, eqb-false (i % 2) 0 p) in
        rw e at (second (i / 2) (omega arith))

-- ---- in a buffer

-- the front of the list that `read` leaves, and all of the list that `write` leaves
pub front_bytes : (s out : List ℕ) → take (length s / 2) (written out 0 (length s / 2) (byte_at s)) ≡ bytes_in s
unfolding written bytes_in
front_bytes s out = take_at (list_of (length s / 2) (byte_at s)) _ (length s / 2) (length-list_of (length s / 2) (byte_at s))

pub front_hex : (s out : List ℕ) → written out 0 (2 * length s) (hex_digit_at s) ≡ over_front (hex_of s) out
unfolding hex_of
front_hex s out = front_written out (hex_of s) (2 * length s) (hex_digit_at s) refl
