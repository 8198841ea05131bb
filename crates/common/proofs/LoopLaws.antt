-- Loops over n places: one that writes the places of a list anew, and one that makes a test at each. What holds when
-- the first i are done, and what a turn and the end give.
-- Assumes nothing.
use mathlib.Core.Path.{◌≡◌, refl, sym, ◌∙◌}
use mathlib.Core.Bool.{Bool, true, ◌&&◌}
use mathlib.Core.List.{List, ◌++◌, append-nil}
use Prim.Native.Nat.{ℕ, ◌+◌, ◌≤◌, ◌<◌}
use native.Mathlib.Nat.{zero-add}
use native.Mathlib.Omega.{arith}
use lib.ListN.{length, take, drop, set, length-set}
use lib.Seq.{drop-length, length-take-le}
use Rattle.common.specs.Lists.{list_of, written, all}
use Rattle.common.proofs.ListsLaws.{written_none, written_more, all_more}

-- ---- places written, one or several a turn

-- of the n places of the list l from place at on, the first i are written, f 0 first; m is the list then
pub record WrittenSoFar (l : List ℕ) (at n : ℕ) (f : ℕ → ℕ) (i : ℕ) (m : List ℕ) : Type 0 where
  pub most : i ≤ n
  pub room : at + n ≤ length l
  pub long : length m ≡ length l
  pub is : m ≡ written l at i f

-- nothing is written yet
pub writing_none : {l : List ℕ} {at n : ℕ} {f : ℕ → ℕ} → at + n ≤ length l → WrittenSoFar l at n f 0 l
writing_none {l} {at} {n} {f} h = record { most = omega arith; room = h; long = refl; is = sym (written_none l at f) }

-- one more
pub writing_more : {l m : List ℕ} {at n i x : ℕ} {f : ℕ → ℕ} → WrittenSoFar l at n f i m → i < n → x ≡ f i → WrittenSoFar l at n f (i + 1) (set m (at + i) x)
writing_more {l} {m} {at} {n} {i} {x} {f} p h q =
    record { most = omega arith; room = p.room; long = rw length-set p.long; is = written_more l at i f (omega (arith, p.room)) p.is q }

-- the same where the places are the list's first
pub writing_front : {l m : List ℕ} {n i x : ℕ} {f : ℕ → ℕ} → WrittenSoFar l 0 n f i m → i < n → x ≡ f i → WrittenSoFar l 0 n f (i + 1) (set m i x)
writing_front p h q = rw zero-add at (writing_more p h q)

-- the first k, where a turn writes several
pub writing_to : {l m d : List ℕ} {at n i k : ℕ} {f : ℕ → ℕ} → WrittenSoFar l at n f i m → k ≤ n → length d ≡ length l → d ≡ written l at k f → WrittenSoFar l at n f k d
writing_to p h e q = record { most = h; room = p.room; long = e; is = q }

-- all n are written
pub writing_end : {l m : List ℕ} {at n i : ℕ} {f : ℕ → ℕ} → WrittenSoFar l at n f i m → n ≤ i → m ≡ written l at n f
writing_end {l} {m} {at} {n} {i} {f} p h = let e : i ≡ n = omega (arith, p.most) in rw e at p.is

-- and where they are all places of the list, it is written whole
pub writing_whole : {l m : List ℕ} {n i : ℕ} {f : ℕ → ℕ} → WrittenSoFar l 0 n f i m → n ≤ i → n ≡ length l → m ≡ list_of n f
unfolding written
writing_whole {l} {m} {n} {i} {f} p h e = writing_end p h ∙ rw (zero-add, e, drop-length, append-nil)

-- the same where the loop goes over the first n places alone, as over `out[..n].iter_mut().enumerate()`: the rest comes back after them
pub writing_part : (l : List ℕ) {m : List ℕ} {n i : ℕ} {f : ℕ → ℕ} → n ≤ length l → WrittenSoFar (take n l) 0 (length (take n l)) f i m → length (take n l) ≤ i → m ++ drop n l ≡ written l 0 n f
unfolding written
writing_part l {m} {n} {i} {f} r p h = let e : length (take n l) ≡ n = length-take-le n l r in rw (writing_whole p h refl, e, zero-add n)

-- ---- tests made, one a turn

-- of the n tests f, the first i are made; ok says whether all of these pass
pub record TestedSoFar (n : ℕ) (f : ℕ → Bool) (i : ℕ) (ok : Bool) : Type 0 where
  pub most : i ≤ n
  pub is : ok ≡ all i f

-- no test is made yet
pub testing_none : {n : ℕ} {f : ℕ → Bool} → TestedSoFar n f 0 true
unfolding all
testing_none = record { most = omega arith; is = refl }

-- one more
pub testing_more : {n i : ℕ} {f : ℕ → Bool} {ok r : Bool} → TestedSoFar n f i ok → i < n → r ≡ f i → TestedSoFar n f (i + 1) (ok && r)
testing_more {n} {i} {f} p h q = record { most = omega arith; is = all_more f i p.is q }

-- all n are made
pub testing_end : {n i : ℕ} {f : ℕ → Bool} {ok : Bool} → TestedSoFar n f i ok → n ≤ i → ok ≡ all n f
testing_end {n} {i} {f} {ok} p h = let e : i ≡ n = omega (arith, p.most) in rw e at p.is
