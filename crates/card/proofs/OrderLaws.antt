-- The order of a FASC-N: digits and marks are found again among the values made of them, and the check value is that of marks and digits.
-- Assumes nothing.
use mathlib.Core.Path.{◌≡◌, refl, sym, ap, ap₂, ◌∙◌}
use mathlib.Core.Bool.{true, and-eq-true_iff}
use mathlib.Core.List.{List, [], ◌∷◌, ◌++◌, append_assoc}
use Prim.Native.Nat.{ℕ, suc, ◌+◌, ◌%◌, ◌<◌, ◌≤◌}
use native.Mathlib.Nat.{add-zero, zero-add, add_assoc, mod-eq_of_lt}
use native.Mathlib.Numerals.{add-one}
use native.Mathlib.Omega.{arith}
use borrow.Author.Tests.{eqb-true, leb-true}
use lib.Bits.{bit_xor, xor_zero_r, xor_lt}
use lib.Dec.{eqb, lit<, lit≤}
use lib.ListN.{length, get_or, take, length-append, drop_of_length-le, get_or-append}
use lib.Seq.{get_or-append-add, get_or-take, length-take-le, take-take, split_at}
use Rattle.common.specs.Lists.{list_of, slice_of, all, xor_of}
use Rattle.card.specs.Fascn.{Piece, mark, field, order, values_from, digits_from, marks_from, digits_in, marks_in, decimal_at, check_value, values_of}
use Rattle.card.specs.FascnCode.{char_of, chars_of, marks_mapped, in_order, marks_of, check_digits}
use Rattle.common.proofs.ListsLaws.{all_at, length-list_of, get_or_list_of, list_of_is, list_of_ext, list_of-append}
use Rattle.common.proofs.XorLaws.{xor_assoc, xor_left_comm, xor_of-append, xor_of_lt}

-- ---- runs

run_append : (i n m : ℕ) (l : List ℕ) → slice_of i (n + m) l ≡ slice_of i n l ++ slice_of (i + n) m l
unfolding slice_of
run_append i n m l =
    list_of-append n m (λ j. get_or l (i + j) 0)
    ∙ ap (λ (t : List ℕ). list_of n (λ j. get_or l (i + j) 0) ++ t) (list_of_ext m (λ j h. ap (λ (p : ℕ). get_or l p 0) (sym (add_assoc i n j))))

run_none : (i : ℕ) (l : List ℕ) → slice_of i 0 l ≡ []
unfolding slice_of list_of
run_none i l = refl

length_run : (i n : ℕ) (l : List ℕ) → length (slice_of i n l) ≡ n
unfolding slice_of
length_run i n l = length-list_of n (λ j. get_or l (i + j) 0)

run_one : (i : ℕ) (l : List ℕ) → slice_of i 1 l ≡ get_or l i 0 ∷ []
unfolding slice_of list_of
run_one i l = rw add-zero

run_take : (n : ℕ) (l : List ℕ) → n ≤ length l → slice_of 0 n l ≡ take n l
unfolding slice_of
run_take n l h = list_of_is n (λ j. get_or l (0 + j) 0) (take n l) (length-take-le n l h) (λ i k. rw zero-add (sym (get_or-take n l i 0 k)))

-- a run that stands between others
run_between : (p q r : List ℕ) (n : ℕ) → length q ≡ n → slice_of (length p) n (p ++ (q ++ r)) ≡ q
unfolding slice_of
run_between p q r n e = list_of_is n _ q e (λ i h. get_or-append-add p (q ++ r) i 0 ∙ get_or-append q r 0 i (rw e h))

-- ---- any order of parts

size : List Piece → ℕ
size [] = 0
size (mark m ∷ ps) = 1 + size ps
size (field n ∷ ps) = n + size ps

mark_here : (m i : ℕ) (ps : List Piece) (v : List ℕ) → marks_from i (mark m ∷ ps) v ≡ true → (slice_of i 1 v ≡ m ∷ []) × (marks_from (suc i) ps v ≡ true)
unfolding marks_from
mark_here m i ps v h =
    let b = (and-eq-true_iff (eqb (get_or v i 0) m) (marks_from (suc i) ps v)).0 h in
    (run_one i v ∙ ap (λ (x : ℕ). x ∷ []) (eqb-true _ _ b.0), b.1)

-- where the marks stand in their places, the exclusive or of all values is that of the marks and the digits
xor_parts : (ps : List Piece) (i : ℕ) (v : List ℕ) → marks_from i ps v ≡ true → xor_of (slice_of i (size ps) v) ≡ bit_xor (xor_of (marks_of ps)) (xor_of (digits_from i ps v))
unfolding digits_from marks_from size marks_of xor_of
xor_parts [] i v h = ap xor_of (run_none i v)
xor_parts (mark m ∷ ps) i v h =
    let b = mark_here m i ps v h in
    rw (run_append i 1 (size ps) v, b.0, xor_of-append (m ∷ []) (slice_of (i + 1) (size ps) v), add-one, xor_parts ps (suc i) v b.1, xor_zero_r)
    (sym (xor_assoc m (xor_of (marks_of ps)) (xor_of (digits_from (suc i) ps v))))
xor_parts (field n ∷ ps) i v h =
    rw (run_append i n (size ps) v, xor_of-append (slice_of i n v) (slice_of (i + n) (size ps) v), xor_parts ps (i + n) v h, xor_of-append (slice_of i n v) (digits_from (i + n) ps v))
    (xor_left_comm (xor_of (slice_of i n v)) (xor_of (marks_of ps)) (xor_of (digits_from (i + n) ps v)))

-- and the values of these digits are those values again
values_back : (ps : List Piece) (i : ℕ) (v p : List ℕ) → marks_from i ps v ≡ true → values_from (length p) ps (p ++ digits_from i ps v) ≡ slice_of i (size ps) v
unfolding digits_from marks_from values_from size
values_back [] i v p h = sym (run_none i v)
values_back (mark m ∷ ps) i v p h =
    let b = mark_here m i ps v h in
    rw (run_append i 1 (size ps) v, b.0, add-one) (ap (λ (t : List ℕ). m ∷ t) (values_back ps (suc i) v p b.1))
values_back (field n ∷ ps) i v p h =
    let q = slice_of i n v in
    let r = digits_from (i + n) ps v in
    let e : length q ≡ n = length_run i n v in
    let rest : values_from (length p + n) ps (p ++ (q ++ r)) ≡ slice_of (i + n) (size ps) v = rw (length-append, e, append_assoc) at (values_back ps (i + n) v (p ++ q) h) in
    rw (run_between p q r n e, rest, run_append i n (size ps) v)

-- ---- the order of a FASC-N

-- 39 characters before the check character, and 32 digits
pub length-before_check : (d : List ℕ) → length (values_from 0 order d) ≡ 39
unfolding values_from slice_of list_of
length-before_check d = refl

pub length_digits : (v : List ℕ) → length (digits_in v) ≡ 32
unfolding digits_from slice_of list_of
length_digits v = refl

pub check_values : (d : List ℕ) → check_value (values_from 0 order d) ≡ check_digits d
unfolding check_value check_digits values_from digits_from marks_from size slice_of list_of
check_values d = xor_parts order 0 (values_from 0 order d) refl

-- 40 values
pub length-values_of : (d : List ℕ) → length (values_of d) ≡ 40
unfolding values_of
length-values_of d = rw (length-append, length-before_check d)

pub marks_values : (d : List ℕ) → marks_in (values_of d) ≡ true
unfolding values_of values_from marks_from slice_of list_of
marks_values d = refl

pub digits_values : (d : List ℕ) → length d ≡ 32 → digits_in (values_of d) ≡ d
unfolding values_of values_from digits_from slice_of list_of
digits_values d e = list_of_is 32 (λ k. get_or d k 0) d e (λ i h. refl)

pub value_check : (d : List ℕ) → get_or (values_of d) 39 0 ≡ check_value (values_of d)
unfolding values_of values_from check_value slice_of list_of
value_check d = refl

values_are : (d : List ℕ) → values_of d ≡ values_from 0 order d ++ (check_value (values_from 0 order d) ∷ [])
unfolding values_of
values_are d = refl

-- the first 32 digits alone matter
values_first : (d : List ℕ) → values_from 0 order (list_of 32 (λ k. get_or d k 0)) ++ (check_value (values_from 0 order d) ∷ []) ≡ values_of d
unfolding values_of values_from slice_of list_of
values_first d = refl

-- the low four bits of each value: of the marks, of the digits and of the check value
each : (d : List ℕ) → list_of 40 (λ i. get_or (values_of d) i 0 % 16)
    ≡ values_from 0 order (list_of 32 (λ k. get_or d k 0 % 16)) ++ (check_value (values_from 0 order d) % 16 ∷ [])
unfolding values_of values_from slice_of list_of
each d = refl

-- the characters of the digits and the marks, in order, are those of the values
pub chars_in-order : (d : List ℕ) → in_order (list_of 32 (λ k. char_of (get_or d k 0))) (char_of 11) (char_of 13) (char_of 15) (char_of (check_digits d)) ≡ chars_of d
unfolding in_order marks_mapped chars_of values_of values_from slice_of list_of
chars_in-order d = rw (← check_values d)

-- each value of decimal digits is its low four bits,
values_mod : (d : List ℕ) → all 32 (decimal_at d) ≡ true → list_of 40 (λ i. get_or (values_of d) i 0 % 16) ≡ values_of d
unfolding check_digits decimal_at marks_of xor_of
values_mod d h =
    each d ∙ ap₂ (λ (l : List ℕ) (x : ℕ). values_from 0 order l ++ (x ∷ [])) (list_of_ext 32 (λ k l. mod-eq_of_lt (small k l))) (mod-eq_of_lt check_lt) ∙ values_first d
  where
    small : (k : ℕ) → k < 32 → get_or d k 0 < 16
    small k l = omega (arith, leb-true (get_or d k 0) 9 (all_at (decimal_at d) 32 h k l))

    check_lt : check_value (values_from 0 order d) < 16
    check_lt = rw (check_values d) (xor_lt 4 (xor_of (marks_of order)) _ (lit< tt) (xor_of_lt 4 (λ k. get_or d k 0) 32 small))

-- so it is below 16
pub values_small : (d : List ℕ) → all 32 (decimal_at d) ≡ true → (i : ℕ) → i < 40 → get_or (values_of d) i 0 < 16
values_small d h i l =
    let e : get_or (values_of d) i 0 % 16 ≡ get_or (values_of d) i 0 =
    sym (get_or_list_of 40 (λ i. get_or (values_of d) i 0 % 16) i l) ∙ ap (λ (v : List ℕ). get_or v i 0) (values_mod d h) in
    omega (arith, e)

-- values with every mark in its place
module _ (v : List ℕ) (long : length v ≡ 40) (placed : marks_in v ≡ true) where
  front_slice : slice_of 0 39 v ≡ take 39 v
  front_slice = run_take 39 v (omega arith)

  pub check_digits_lem : check_value v ≡ check_digits (digits_in v)
  unfolding check_value check_digits digits_from size slice_of list_of
  check_digits_lem = ap xor_of (sym front_slice) ∙ xor_parts order 0 v placed

  pub values_digits : get_or v 39 0 ≡ check_value v → values_of (digits_in v) ≡ v
  unfolding check_value size
  values_digits c =
      let values : values_from 0 order (digits_in v) ≡ take 39 v = values_back order 0 v [] placed ∙ front_slice in
      let whole : v ≡ take 39 v ++ (get_or v 39 0 ∷ []) = rw (drop_of_length-le v {i = 40} (omega arith)) at (split_at v 39 0 (omega arith)) in
      rw (values_are, values, take-take 39 39 v (lit≤ tt), ← c) (sym whole)
