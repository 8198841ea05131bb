-- Strings in which digits stand at given places: what a string between two others is at each place.
-- Assumes nothing.
use mathlib.Core.Path.{◌≡◌, refl}
use mathlib.Core.Bool.{Bool, true, false, ◌&&◌, and-eq-true_iff}
use mathlib.Core.List.{List}
use Prim.Native.Nat.{ℕ, ◌≤◌, ◌<◌}
use native.Mathlib.Omega.{arith}
use borrow.Author.Tests.{leb-true, ltb-true, ltb-false, eqb-true, le-leb, eq-eqb}
use lib.Dec.{eqb, leb, ltb}
use lib.ListN.{length, get_or, get_or-eq_default}
use Rattle.common.specs.Lists.{all}
use Rattle.common.proofs.ListsLaws.{all_at, all_of}
use Rattle.text.specs.Form.{between, between_at}

-- the lengths agree, and each byte lies between those of the two strings; past the end all three are read as 0
pub between_at_lem : (lo hi s : List ℕ) → between lo hi s ≡ true
    → (length s ≡ length lo) × (length s ≡ length hi) × ((i : ℕ) → (get_or lo i 0 ≤ get_or s i 0) × (get_or s i 0 ≤ get_or hi i 0))
unfolding between between_at
between_at_lem lo hi s p = (same_lo, same_hi, λ i. by i (ltb i (length s)) refl)
  where
    tests : (eqb (length s) (length lo) && eqb (length s) (length hi) ≡ true) × (all (length s) (between_at lo hi s) ≡ true)
    tests = (and-eq-true_iff (eqb (length s) (length lo) && eqb (length s) (length hi)) (all (length s) (between_at lo hi s))).0 p

    sizes : (eqb (length s) (length lo) ≡ true) × (eqb (length s) (length hi) ≡ true)
    sizes = (and-eq-true_iff (eqb (length s) (length lo)) (eqb (length s) (length hi))).0 tests.0

    same_lo : length s ≡ length lo
    same_lo = eqb-true (length s) (length lo) sizes.0

    same_hi : length s ≡ length hi
    same_hi = eqb-true (length s) (length hi) sizes.1

    by : (i : ℕ) (b : Bool) → ltb i (length s) ≡ b → (get_or lo i 0 ≤ get_or s i 0) × (get_or s i 0 ≤ get_or hi i 0)
    by i true e =
        let t = (and-eq-true_iff (leb (get_or lo i 0) (get_or s i 0)) (leb (get_or s i 0) (get_or hi i 0))).0
        (all_at (between_at lo hi s) (length s) tests.1 i (ltb-true i (length s) e)) in
        (leb-true (get_or lo i 0) (get_or s i 0) t.0, leb-true (get_or s i 0) (get_or hi i 0) t.1)
    by i false e =
        let l = ltb-false i (length s) e in
        rw (get_or-eq_default s 0 {n = i} l, get_or-eq_default lo 0 {n = i} (omega (arith, same_lo, l))) (omega arith, omega arith)

pub between_of : (lo hi s : List ℕ) → length s ≡ length lo → length s ≡ length hi
    → ((i : ℕ) → i < length s → (get_or lo i 0 ≤ get_or s i 0) × (get_or s i 0 ≤ get_or hi i 0)) → between lo hi s ≡ true
unfolding between between_at
between_of lo hi s p q h =
    rw (
      eq-eqb (length s) (length lo) p,
      eq-eqb (length s) (length hi) q,
      all_of (between_at lo hi s) (length s) (λ i l. rw (le-leb (get_or lo i 0) (get_or s i 0) (h i l).0, le-leb (get_or s i 0) (get_or hi i 0) (h i l).1)),
    )

-- where the two strings agree, s has what they have
pub between_mark : (lo hi s : List ℕ) → between lo hi s ≡ true → (i : ℕ) → get_or lo i 0 ≡ get_or hi i 0 → get_or s i 0 ≡ get_or lo i 0
between_mark lo hi s p i e = let b = (between_at_lem lo hi s p).2 i in omega (arith, e, b.0, b.1)
