-- A list stored in another from a place on, where it fits.
-- Assumes nothing.
use mathlib.Core.Path.{◌≡◌, sym, ap, ◌∙◌}
use mathlib.Core.List.{List, ◌++◌, append-nil, append_assoc}
use Prim.Native.Nat.{ℕ, ◌+◌, ◌-◌, ◌%◌, ◌≤◌, ◌<◌}
use native.Mathlib.Nat.{le_of_eq, le_refl}
use native.Mathlib.Omega.{arith}
use borrow.Author.Tests.{le-leb, lt-leb}
use lib.ListN.{length, get_or, take, drop, length-drop, drop_of_length-le}
use borrow.Rule.Slice.PartMut.{put_mid}
use lib.Seq.{take_all, drop-drop, length-take-le, get_or-take, get_or-drop}
use Rattle.common.specs.Lists.{list_of, number, written, over_front, over_places, over_places_where}
use Rattle.common.proofs.NumberLaws.{number_ext}
use Rattle.common.proofs.ListsLaws.{list_of_is, over_first, over_next, length_front}

-- all of it fits, or not
pub store_fits : (l s : List ℕ) (at : ℕ) → at + length s ≤ length l → over_places_where l at s ≡ over_places l at s
unfolding over_places_where
store_fits l s at h = rw (le-leb (at + length s) (length l) h)

pub store_not : (l s : List ℕ) (at : ℕ) → length l < at + length s → over_places_where l at s ≡ l
unfolding over_places_where
store_not l s at h = rw (lt-leb (at + length s) (length l) h)

-- what the kit's `copy` leaves
pub copied : (s d : List ℕ) → take (length s) s ++ drop (length s) d ≡ over_front s d
unfolding over_front
copied s d = rw (take_all (length s) s (le_refl (length s)))

-- a list over the front of one that is no longer is that list
pub front_all : (s l : List ℕ) → length l ≤ length s → over_front s l ≡ s
unfolding over_front
front_all s l h = rw (drop_of_length-le l h, append-nil)

-- one that is stored from the first place on, and right after the front, where it fits
pub store_first : (d s : List ℕ) → length s ≤ length d → over_places_where d 0 s ≡ over_front s d
store_first d s h = store_fits d s 0 (omega arith) ∙ over_first d s

pub store_next : (p s d : List ℕ) {l : List ℕ} {n : ℕ} → l ≡ over_front p d → n ≡ length p → length p + length s ≤ length d
    → over_places_where l n s ≡ over_front (p ++ s) d
store_next p s d {l} {n} e k h =
    store_fits l s n (omega (arith, k, ap length e ∙ length_front p d (omega arith))) ∙ over_next p s d e k

-- ---- parts of a list: a run of one by its numbers, and a part written anew or only read

-- a run of a list, by its numbers
pub run_is : (s : List ℕ) (from n : ℕ) → from + n ≤ length s → take n (drop from s) ≡ list_of n (λ j. get_or s (from + j) 0)
run_is s from n h =
    sym (list_of_is n (λ j. get_or s (from + j) 0) (take n (drop from s)) (length-take-le n (drop from s) (omega (arith, h, length-drop from s)))
    (λ i l. sym (get_or-take n (drop from s) i 0 l ∙ get_or-drop from s i 0)))

-- a part of a list written anew, as by a call that is lent `&mut d[at..at + n]`
pub part_written : (d : List ℕ) (at n : ℕ) (f : ℕ → ℕ) {l : List ℕ} → l ≡ list_of n f → put_mid at ((at + n) - at) d l ≡ written d at n f
unfolding written
part_written d at n f e =
    let k : (at + n) - at ≡ n = omega arith in
    rw (e, k, drop-drop) (sym (append_assoc (take at d) (list_of n f) (drop (at + n) d)))

-- a part of a list that is only read, as `&s[at..at + n]`: how long it is, and its numbers
pub length_part : (s : List ℕ) (at n : ℕ) → at + n ≤ length s → length (take ((at + n) - at) (drop at s)) ≡ n
length_part s at n h = length-take-le _ (drop at s) (omega (arith, h, length-drop at s)) ∙ omega arith

pub part_at : (s : List ℕ) (at n j : ℕ) → j < n → get_or (take ((at + n) - at) (drop at s)) j 0 ≡ get_or s (at + j) 0
part_at s at n j h = get_or-take _ (drop at s) j 0 (omega arith) ∙ get_or-drop at s j 0

-- the number whose digits are those of a part, by the places of the whole
pub number_part : (s : List ℕ) (at n b : ℕ) {w : ℕ} → at + n ≤ length s
    → w ≡ number b (length (take ((at + n) - at) (drop at s))) (λ j. get_or (take ((at + n) - at) (drop at s)) j 0 % b) → w ≡ number b n (λ j. get_or s (at + j) 0 % b)
number_part s at n b h e = rw (length_part s at n h) at e ∙ number_ext b n (λ j l. ap (λ (x : ℕ). x % b) (part_at s at n j l))

-- a part that runs to the end comes back with s over its front: s is stored from the part's first place on
pub part_over : (d s : List ℕ) (at : ℕ) {l : List ℕ} → l ≡ over_front s (take (length d - at) (drop at d))
    → take at d ++ (l ++ drop (length d - at) (drop at d)) ≡ over_places d at s
unfolding over_front over_places
part_over d s at e =
    let whole : take (length d - at) (drop at d) ≡ drop at d = take_all (length d - at) (drop at d) (le_of_eq (length-drop at d)) in
    rw (drop_of_length-le (drop at d) (le_of_eq (length-drop at d)), append-nil, e, whole, drop-drop) (sym (append_assoc (take at d) s (drop (at + length s) d)))
