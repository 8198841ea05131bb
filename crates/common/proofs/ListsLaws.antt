-- Lists and tests over 0, 1, .., n - 1: what one more adds, and what holds at each place; lists compared, one stored
-- over another, and a part of a list as far as it goes.
-- Assumes nothing.
use mathlib.Core.Path.{◌≡◌, refl, sym, ap, ap₂, ◌∙◌}
use mathlib.Core.Bool.{Bool, true, false, ◌&&◌, and-eq-true_iff, and-true, and_assoc}
use mathlib.Core.List.{List, [], ◌∷◌, ◌++◌, append-nil, append_assoc}
use mathlib.Core.Logic.{⊎_elim}
use Prim.Native.Nat.{ℕ, zero, suc, ◌+◌, ◌-◌, ◌≤◌, ◌<◌, min}
use native.Mathlib.Nat.{not-suc-le-zero, le_of_suc-le-suc, le_step, le_refl, eq-or-lt_of_le, add-zero, add-suc, zero-add}
use native.Mathlib.Numerals.{add-one}
use native.Mathlib.Omega.{arith}
use borrow.Author.Tests.{eqb-true, eq-eqb, ne_eqb}
use lib.Dec.{eqb}
use lib.ListN.{length, get_or, set, take, drop, length-append, length-drop, take-append-drop, get_or-append, length-take}
use lib.Seq.{take-nil, drop-nil, drop-cons, length-take-le, append_snoc, set_at, get_or_at, ext_get_or, take_at, drop_at, drop-drop, take-append_seam, drop-append-add, get_or-append-add, get_or-take, get_or-drop}
use Rattle.common.proofs.TestLaws.{clash}
use Rattle.common.specs.Lists.{list_of, all, same_bytes, written, over_front, over_places}

-- ---- tests

pub all_more : (f : ℕ → Bool) (i : ℕ) {x r : Bool} → x ≡ all i f → r ≡ f i → x && r ≡ all (i + 1) f
unfolding all
all_more f i p q = rw (add-one, p, q)

-- a test over all numbers below n, at one of them
pub all_at : (f : ℕ → Bool) (n : ℕ) → all n f ≡ true → (i : ℕ) → i < n → f i ≡ true
unfolding all
all_at f zero p i h = absurd (not-suc-le-zero h)
all_at f (suc n) p i h =
    let b = (and-eq-true_iff (all n f) (f n)).0 p in
    ⊎_elim (λ e. ap f e ∙ b.1) (λ l. all_at f n b.0 i l) (eq-or-lt_of_le (le_of_suc-le-suc h))

-- a test that passes at each number below n
pub all_of : (f : ℕ → Bool) (n : ℕ) → ((i : ℕ) → i < n → f i ≡ true) → all n f ≡ true
unfolding all
all_of f zero h = refl
all_of f (suc n) h = rw (all_of f n (λ i l. h i (le_step l)), h n (le_refl (suc n)))

-- one that does not pass at each fails at one
pub all-not : (f : ℕ → Bool) (n : ℕ) → all n f ≡ false → (i : ℕ) × (i < n) × (f i ≡ false)
unfolding all
all-not f zero e = clash (sym e)
all-not f (suc n) e = by (all n f) refl e (λ q. all-not f n q)
  where
    by : (b : Bool) → all n f ≡ b → b && f n ≡ false → (all n f ≡ false → (i : ℕ) × (i < n) × (f i ≡ false)) → (i : ℕ) × (i < suc n) × (f i ≡ false)
    by true q h later = (n, le_refl (suc n), h)
    by false q h later = let x = later q in (x.0, le_step x.1, x.2)

-- and one that fails at one does not pass at each
pub all_fails : (f : ℕ → Bool) (n i : ℕ) → i < n → f i ≡ false → all n f ≡ false
all_fails f n i h e = by (all n f) refl
  where
    by : (b : Bool) → all n f ≡ b → b ≡ false
    by true a = clash (sym e ∙ all_at f n a i h)
    by false a = refl

pub all_ext : (n : ℕ) {f g : ℕ → Bool} → ((i : ℕ) → i < n → f i ≡ g i) → all n f ≡ all n g
unfolding all
all_ext zero h = refl
all_ext (suc n) h = ap₂ ◌&&◌ (all_ext n (λ i l. h i (le_step l))) (h n (le_refl (suc n)))

-- the first test, and those after it
pub all_front : (n : ℕ) (f : ℕ → Bool) → all (suc n) f ≡ f 0 && all n (λ i. f (suc i))
unfolding all
all_front zero f = sym (and-true (f 0))
all_front (suc n) f = rw (all_front n f) (and_assoc (f 0) (all n (λ i. f (suc i))) (f (suc n)))

-- all bytes are the same exactly where the lists are
pub same_refl : (a : List ℕ) → same_bytes a a ≡ true
unfolding same_bytes
same_refl a = rw (eq-eqb (length a) (length a) refl) (all_of _ (length a) (λ i h. eq-eqb (get_or a i 0) (get_or a i 0) refl))

pub same_bytes_lem : (a b : List ℕ) → same_bytes a b ≡ true → a ≡ b
unfolding same_bytes
same_bytes_lem a b p =
    let q = (and-eq-true_iff (eqb (length a) (length b)) (all (length a) (λ i. eqb (get_or a i 0) (get_or b i 0)))).0 p in
    ext_get_or 0 a b (eqb-true _ _ q.0) (λ i h. eqb-true _ _ (all_at (λ i. eqb (get_or a i 0) (get_or b i 0)) (length a) q.1 i h))

-- the first bytes of a list compared with others, by the bytes, where there are as many
pub same_front : (p s : List ℕ) → length p ≤ length s → same_bytes (take (length p) s) p ≡ all (length p) (λ i. eqb (get_or s i 0) (get_or p i 0))
unfolding same_bytes
same_front p s h =
    rw (length-take-le (length p) s h, eq-eqb (length p) (length p) refl)
    (all_ext (length p) (λ i l. ap (λ (x : ℕ). eqb x (get_or p i 0)) (get_or-take (length p) s i 0 l)))

pub same_short : (p s : List ℕ) → length s < length p → same_bytes (take (length p) s) p ≡ false
unfolding same_bytes
same_short p s h = rw (ne_eqb (length (take (length p) s)) (length p) (λ e. omega (arith, length-take (length p) s)))

-- ---- lists

pub length-list_of : (n : ℕ) (f : ℕ → ℕ) → length (list_of n f) ≡ n
unfolding list_of
length-list_of zero f = refl
length-list_of (suc n) f = rw (length-append, length-list_of n f) (add-one n)

pub get_or_list_of : (n : ℕ) (f : ℕ → ℕ) (i : ℕ) → i < n → get_or (list_of n f) i 0 ≡ f i
unfolding list_of
get_or_list_of zero f i h = absurd (not-suc-le-zero h)
get_or_list_of (suc n) f i h =
    ⊎_elim (λ e. rw e (get_or_at (list_of n f) (f n) [] 0 n (length-list_of n f)))
    (λ l. get_or-append (list_of n f) (f n ∷ []) 0 i (rw (length-list_of n f) l) ∙ get_or_list_of n f i l)
    (eq-or-lt_of_le (le_of_suc-le-suc h))

pub list_of_ext : (n : ℕ) {f g : ℕ → ℕ} → ((i : ℕ) → i < n → f i ≡ g i) → list_of n f ≡ list_of n g
unfolding list_of
list_of_ext zero h = refl
list_of_ext (suc n) h = ap₂ (λ (a : List ℕ) (b : ℕ). a ++ (b ∷ [])) (list_of_ext n (λ i l. h i (le_step l))) (h n (le_refl (suc n)))

-- a list of n numbers that are those of f
pub list_of_is : (n : ℕ) (f : ℕ → ℕ) (l : List ℕ) → length l ≡ n → ((i : ℕ) → i < n → f i ≡ get_or l i 0) → list_of n f ≡ l
list_of_is n f l e h =
    ext_get_or 0 (list_of n f) l (length-list_of n f ∙ sym e)
    (λ i b. let b' : i < n = rw (length-list_of n f) at b in get_or_list_of n f i b' ∙ h i b')

pub list_of-append : (n m : ℕ) (f : ℕ → ℕ) → list_of (n + m) f ≡ list_of n f ++ list_of m (λ j. f (n + j))
unfolding list_of
list_of-append n zero f = rw add-zero (sym (append-nil (list_of n f)))
list_of-append n (suc m) f = rw (add-suc, list_of-append n m f, append_assoc)

-- ---- a list that is written anew from a place on

pub written_none : (l : List ℕ) (at : ℕ) (f : ℕ → ℕ) → written l at 0 f ≡ l
unfolding written list_of
written_none l at f = rw (add-zero, append-nil) (take-append-drop at l)

length_before : (l : List ℕ) (at n : ℕ) (f : ℕ → ℕ) → at + n ≤ length l → length (take at l ++ list_of n f) ≡ at + n
length_before l at n f h = rw (length-append, length-take-le at l (omega arith), length-list_of)

pub written_more : (l : List ℕ) (at n : ℕ) (f : ℕ → ℕ) {m : List ℕ} {x : ℕ} → at + n < length l → m ≡ written l at n f → x ≡ f n
    → set m (at + n) x ≡ written l at (n + 1) f
unfolding written list_of
written_more l at n f {m} {x} h p q =
    let over_front = take at l ++ list_of n f in
    let e : m ≡ over_front ++ (get_or l (at + n) 0 ∷ drop (suc (at + n)) l) = p ∙ ap (λ (t : List ℕ). over_front ++ t) (drop-cons l (at + n) 0 h) in
    rw (e, q, set_at over_front (get_or l (at + n) 0) (drop (suc (at + n)) l) (f n) (at + n) (length_before l at n f (omega arith)), add-one, add-suc, ← append_assoc)
    (sym (append_snoc over_front (f n) (drop (suc (at + n)) l)))

pub length-written : (l : List ℕ) (at n : ℕ) (f : ℕ → ℕ) → at + n ≤ length l → length (written l at n f) ≡ length l
unfolding written
length-written l at n f h = rw (length-append, length_before l at n f h, length-drop) (omega arith)

pub written_ext : (l : List ℕ) (at n : ℕ) {f g : ℕ → ℕ} → ((i : ℕ) → i < n → f i ≡ g i) → written l at n f ≡ written l at n g
unfolding written
written_ext l at n h = ap (λ (t : List ℕ). take at l ++ t ++ drop (at + n) l) (list_of_ext n h)

-- the first n places are written, and then the next m
pub written_on : (l : List ℕ) (n m : ℕ) (f : ℕ → ℕ) → written (written l 0 n f) n m (λ j. f (n + j)) ≡ written l 0 (n + m) f
unfolding written
written_on l n m f =
    rw (
      zero-add n,
      zero-add (n + m),
      ← drop-drop m n (list_of n f ++ drop n l),
      take_at (list_of n f) (drop n l) n (length-list_of n f),
      drop_at (list_of n f) (drop n l) n (length-list_of n f),
      drop-drop m n l,
      list_of-append n m f,
    )

-- ---- a list stored in another

-- a list written anew from its first place on has what was written in front
pub front_written : (l s : List ℕ) (n : ℕ) (f : ℕ → ℕ) → list_of n f ≡ s → written l 0 n f ≡ over_front s l
unfolding written over_front
front_written l s n f e = rw (zero-add, ← e, length-list_of)

-- a list stored from the first place on stands in front
pub over_first : (d s : List ℕ) → over_places d 0 s ≡ over_front s d
unfolding over_front over_places
over_first d s = rw zero-add

-- one stored right after the front makes the front longer
pub over_next : (p s d : List ℕ) {l : List ℕ} {n : ℕ} → l ≡ over_front p d → n ≡ length p → over_places l n s ≡ over_front (p ++ s) d
unfolding over_front over_places
over_next p s d e k = rw (e, k, take-append_seam, drop-append-add, drop-drop, length-append)

-- no bytes stored change nothing
pub over_none : (l : List ℕ) (at : ℕ) → over_places l at [] ≡ l
unfolding over_places
over_none l at = let z : at + 0 ≡ at = omega arith in rw (z, append-nil) (take-append-drop at l)

-- a list with another over its places, or over its front, is as long as it was
pub length_over : (l s : List ℕ) (at : ℕ) → at + length s ≤ length l → length (over_places l at s) ≡ length l
unfolding over_places
length_over l s at h = simp (length-append, length-take, length-drop) (omega arith)

pub length_front : (s l : List ℕ) → length s ≤ length l → length (over_front s l) ≡ length l
unfolding over_front
length_front s l h = rw (length-append, length-drop) (omega arith)

-- its first places are those of the other
pub front_at : (s l : List ℕ) (i : ℕ) → i < length s → get_or (over_front s l) i 0 ≡ get_or s i 0
unfolding over_front
front_at s l i h = get_or-append s (drop (length s) l) 0 i h

-- every other place is as it was
pub front_after : (s l : List ℕ) (i : ℕ) → length s ≤ i → get_or (over_front s l) i 0 ≡ get_or l i 0
unfolding over_front
front_after s l i h =
    let e : i ≡ length s + (i - length s) = omega arith in
    rw e (get_or-append-add s (drop (length s) l) (i - length s) 0 ∙ get_or-drop (length s) l (i - length s) 0)

-- ---- a part of a list, as far as the list goes

pub take_most : (n m : ℕ) (s : List ℕ) → n ≡ min (length s) m → take n s ≡ take m s
take_most n zero s e = let z : n ≡ 0 = omega (arith, e) in ap (λ (i : ℕ). take i s) z
take_most n (suc r) [] e = take-nil n
take_most n (suc r) (a ∷ s) e =
    let z : n ≡ suc (min (length s) r) = omega (arith, e) in
    ap (λ (i : ℕ). take i (a ∷ s)) z ∙ ap (λ (l : List ℕ). a ∷ l) (take_most (min (length s) r) r s refl)

pub drop_most : (n m : ℕ) (s : List ℕ) → n ≡ min (length s) m → drop n s ≡ drop m s
drop_most n zero s e = let z : n ≡ 0 = omega (arith, e) in ap (λ (i : ℕ). drop i s) z
drop_most n (suc r) [] e = drop-nil n
drop_most n (suc r) (a ∷ s) e =
    let z : n ≡ suc (min (length s) r) = omega (arith, e) in
    ap (λ (i : ℕ). drop i (a ∷ s)) z ∙ drop_most (min (length s) r) r s refl
