-- The merge of two lists: either order of the two gives the same, and with the empty list it is the other list; a key
-- is in it exactly where it is in either; it ascends where both do, and no other list that ascends has the same keys;
-- its count; what the call answers, and what it leaves in the places.
-- Assumes nothing.
use mathlib.Core.Path.{◌≡◌, refl, sym, ap, ◌∙◌}
use mathlib.Core.Bool.{Bool, true, false, cond, not, ◌||◌, ◌&&◌, or-true, or-false, or_assoc}
use mathlib.Core.List.{List, [], ◌∷◌}
use Rattle.std.specs.Prelude.{Result, Ok, Err}
use Prim.Native.Nat.{ℕ, suc, ◌+◌, ◌-◌, ◌≤◌, ◌<◌}
use native.Mathlib.Nat.{lt_irrefl}
use native.Mathlib.Omega.{arith}
use borrow.Author.Tests.{ltb-true, ltb-false, lt-ltb, le-ltb, eqb-true, eq-eqb, ne_eqb, not-false}
use lib.Dec.{eqb, ltb}
use lib.ListN.{length, get_or, take, drop}
use lib.Seq.{take_at, drop_at}
use Rattle.common.specs.Lists.{all, over_front, is_in}
use Rattle.common.proofs.TestLaws.{clash, and_parts, and_left, and_right, and_both, same_test}
use Rattle.common.proofs.ListsLaws.{all_front}
use Rattle.common.proofs.ConditionLaws.{none_fit}
use Rattle.ccl.specs.Merge.{ascending, merged, merge_refusal, merge_of, merged_after, merge_answer}
use Rattle.ccl.specs.declared.merge.MergeError.{MergeError}
use Rattle.ccl.specs.declared.merge.MergeError.TheVariants as merge-errors

-- ---- two keys are in one of three orders

pub by_order : {P : Type 0} (x y : ℕ) → (x < y → P) → (x ≡ y → P) → (y < x → P) → P
by_order {P} x y below same above = go (ltb x y) refl (ltb y x) refl
  where
    go : (s : Bool) → ltb x y ≡ s → (t : Bool) → ltb y x ≡ t → P
    go true p t q = below (ltb-true x y p)
    go false p true q = above (ltb-true y x q)
    go false p false q = same (omega (arith, ltb-false x y p, ltb-false y x q))

-- ---- one key after another

-- with the empty list it is the other list
pub empty-merged : (b : List ℕ) → merged [] b ≡ b
unfolding merged
empty-merged b = refl

pub merged-empty : (a : List ℕ) → merged a [] ≡ a
unfolding merged
merged-empty [] = refl
merged-empty (x ∷ a) = refl

pub merged_below : (x y : ℕ) (a b : List ℕ) → x < y → merged (x ∷ a) (y ∷ b) ≡ x ∷ merged a (y ∷ b)
unfolding merged
merged_below x y a b h = rw (lt-ltb x y h)

pub merged_same : (x y : ℕ) (a b : List ℕ) → x ≡ y → merged (x ∷ a) (y ∷ b) ≡ x ∷ merged a b
unfolding merged
merged_same x y a b e = rw (le-ltb x y (omega (arith, e)), le-ltb y x (omega (arith, e)))

pub merged_above : (x y : ℕ) (a b : List ℕ) → y < x → merged (x ∷ a) (y ∷ b) ≡ y ∷ merged (x ∷ a) b
unfolding merged
merged_above x y a b h = rw (le-ltb x y (omega arith), lt-ltb y x h)

-- either order of the two gives the same list
pub merged_either_way : (a b : List ℕ) → merged a b ≡ merged b a
merged_either_way [] b = empty-merged b ∙ sym (merged-empty b)
merged_either_way (x ∷ a) [] = merged-empty (x ∷ a) ∙ sym (empty-merged (x ∷ a))
merged_either_way (x ∷ a) (y ∷ b) =
    by_order x y (λ h. merged_below x y a b h ∙ ap (λ (l : List ℕ). x ∷ l) (merged_either_way a (y ∷ b)) ∙ sym (merged_above y x b a h))
    (λ e. merged_same x y a b e ∙ rw e (ap (λ (l : List ℕ). y ∷ l) (merged_either_way a b)) ∙ sym (merged_same y x b a (sym e)))
    (λ h. merged_above x y a b h ∙ ap (λ (l : List ℕ). y ∷ l) (merged_either_way (x ∷ a) b) ∙ sym (merged_below y x b a h))

-- ---- a key is in it exactly where it is in either

or_second : (p q r : Bool) → p || (q || r) ≡ q || (p || r)
or_second true q r = sym (or-true q)
or_second false q r = refl

or_each : (p q r : Bool) → p || (q || r) ≡ (p || q) || (p || r)
or_each true q r = refl
or_each false q r = refl

pub in_merged : (key : ℕ) (a b : List ℕ) → is_in key (merged a b) ≡ is_in key a || is_in key b
in_merged key [] b = rw (empty-merged b)
in_merged key (x ∷ a) [] = rw (merged-empty (x ∷ a)) (sym (or-false (is_in key (x ∷ a))))
in_merged key (x ∷ a) (y ∷ b) =
    by_order x y (λ h. rw (merged_below x y a b h, in_merged key a (y ∷ b)) (sym (or_assoc (eqb key x) (is_in key a) (is_in key (y ∷ b)))))
    (λ e. rw (merged_same x y a b e, in_merged key a b, e) (or_each (eqb key y) (is_in key a) (is_in key b)))
    (λ h. rw (merged_above x y a b h, in_merged key (x ∷ a) b) (or_second (eqb key y) (is_in key (x ∷ a)) (is_in key b)))

-- ---- what ascends

-- a key below all keys of a list
abbrev pub BelowAll : ℕ → List ℕ → Type 0
BelowAll x l = (key : ℕ) → is_in key l ≡ true → x < key

pub empty_ascends : ascending [] ≡ true
unfolding ascending all
empty_ascends = refl

-- each key of a list that has a first one is above the key before it
ascending_by : (x : ℕ) (l : List ℕ) → ascending (x ∷ l) ≡ all (length l) (λ i. ltb (get_or (x ∷ l) i 0) (get_or l i 0))
unfolding ascending
ascending_by x l = let e : suc (length l) - 1 ≡ length l = omega arith in rw e

pub one_ascends : (x : ℕ) → ascending (x ∷ []) ≡ true
unfolding all
one_ascends x = ascending_by x []

pub ascending_pair : (x y : ℕ) (l : List ℕ) → ascending (x ∷ y ∷ l) ≡ ltb x y && ascending (y ∷ l)
ascending_pair x y l = ascending_by x (y ∷ l) ∙ all_front (length l) (λ i. ltb (get_or (x ∷ y ∷ l) i 0) (get_or (y ∷ l) i 0)) ∙ ap (λ (b : Bool). ltb x y && b) (sym (ascending_by y l))

-- without its first key it ascends still
pub ascending_rest : (x : ℕ) (l : List ℕ) → ascending (x ∷ l) ≡ true → ascending l ≡ true
ascending_rest x [] p = empty_ascends
ascending_rest x (y ∷ l) p = and_right (ltb x y) (ascending (y ∷ l)) (sym (ascending_pair x y l) ∙ p)

-- its first key is below all others
pub ascending_first : (x : ℕ) (l : List ℕ) → ascending (x ∷ l) ≡ true → BelowAll x l
ascending_first x [] p key e = clash e
ascending_first x (y ∷ l) p key e =
    let q = sym (ascending_pair x y l) ∙ p in
    let h = ltb-true x y (and_left (ltb x y) (ascending (y ∷ l)) q) in
    go (eqb key y) refl h (ascending_first y l (and_right (ltb x y) (ascending (y ∷ l)) q) key) e
  where
    go : (b : Bool) → eqb key y ≡ b → x < y → (is_in key l ≡ true → y < key) → b || is_in key l ≡ true → x < key
    go true k h later e = omega (arith, h, eqb-true key y k)
    go false k h later e = omega (arith, h, later e)

-- and with a key in front that is below all others it ascends
pub ascending_with : (x : ℕ) (l : List ℕ) → BelowAll x l → ascending l ≡ true → ascending (x ∷ l) ≡ true
ascending_with x [] below p = one_ascends x
ascending_with x (y ∷ l) below p = ascending_pair x y l ∙ and_both (lt-ltb x y (below y (rw (eq-eqb y y refl)))) p

-- a key below the first of a list that ascends is below all of it
below_first : (x y : ℕ) (l : List ℕ) → x < y → ascending (y ∷ l) ≡ true → BelowAll x (y ∷ l)
below_first x y l h p = ascending_first x (y ∷ l) (ascending_pair x y l ∙ and_both (lt-ltb x y h) p)

-- one below all keys of two lists is below all of the merged list
below_merged : (x : ℕ) (a b : List ℕ) → BelowAll x a → BelowAll x b → BelowAll x (merged a b)
below_merged x a b f g key e = go (is_in key a) refl (sym (in_merged key a b) ∙ e)
  where
    go : (t : Bool) → is_in key a ≡ t → t || is_in key b ≡ true → x < key
    go true p q = f key p
    go false p q = g key q

-- the merged list ascends where both do
pub merged_ascends : (a b : List ℕ) → ascending a ≡ true → ascending b ≡ true → ascending (merged a b) ≡ true
merged_ascends [] b p q = rw (empty-merged b) q
merged_ascends (x ∷ a) [] p q = rw (merged-empty (x ∷ a)) p
merged_ascends (x ∷ a) (y ∷ b) p q =
    let a-ascends = ascending_rest x a p in
    let b-ascends = ascending_rest y b q in
    by_order x y
    (λ h. rw (merged_below x y a b h) (ascending_with x (merged a (y ∷ b)) (below_merged x a (y ∷ b) (ascending_first x a p) (below_first x y b h q)) (merged_ascends a (y ∷ b) a-ascends q)))
    (λ (e : x ≡ y). rw (merged_same x y a b e) (ascending_with x (merged a b) (below_merged x a b (ascending_first x a p) (rw e (ascending_first y b q))) (merged_ascends a b a-ascends b-ascends)))
    (λ h. rw (merged_above x y a b h) (ascending_with y (merged (x ∷ a) b) (below_merged y (x ∷ a) b (below_first y x a h p) (ascending_first y b q)) (merged_ascends (x ∷ a) b p b-ascends)))

-- ---- no other list that ascends has the same keys

in_first : (x : ℕ) (l : List ℕ) → is_in x (x ∷ l) ≡ true
in_first x l = rw (eq-eqb x x refl)

in_rest : (key x : ℕ) (l : List ℕ) → x < key → is_in key (x ∷ l) ≡ is_in key l
in_rest key x l h = rw (ne_eqb key x (λ e. omega (arith, e)))

-- a key below all keys of a list is none of them
below_absent : (x : ℕ) (l : List ℕ) → BelowAll x l → is_in x l ≡ false
below_absent x l below = go (is_in x l) refl
  where
    go : (t : Bool) → is_in x l ≡ t → t ≡ false
    go true p = absurd (lt_irrefl x (below x p))
    go false p = refl

-- two lists of the same keys that begin with the same key, below all others
rest_same : (x y : ℕ) (l m : List ℕ) → x ≡ y → BelowAll x l → BelowAll y m → ((key : ℕ) → is_in key (x ∷ l) ≡ is_in key (y ∷ m)) → (key : ℕ) → is_in key l ≡ is_in key m
rest_same x y l m e f g same key =
    same_test (is_in key l) (is_in key m)
    (λ p. let h = f key p in sym (in_rest key y m (omega (arith, h, e))) ∙ sym (same key) ∙ in_rest key x l h ∙ p)
    (λ p. let h = g key p in sym (in_rest key x l (omega (arith, h, e))) ∙ same key ∙ in_rest key y m h ∙ p)

pub ascending_same : (l m : List ℕ) → ascending l ≡ true → ascending m ≡ true → ((key : ℕ) → is_in key l ≡ is_in key m) → l ≡ m
ascending_same [] [] p q same = refl
ascending_same [] (y ∷ m) p q same = clash (same y ∙ in_first y m)
ascending_same (x ∷ l) [] p q same = clash (sym (same x) ∙ in_first x l)
ascending_same (x ∷ l) (y ∷ m) p q same =
    by_order x y (λ h. absurd (lt_irrefl x (below_first x y m h q x (sym (same x) ∙ in_first x l))))
    (λ (e : x ≡ y).
    rw e
    (ap (λ (t : List ℕ). y ∷ t)
    (ascending_same l m (ascending_rest x l p) (ascending_rest y m q) (rest_same x y l m e (ascending_first x l p) (ascending_first y m q) same))))
    (λ h. absurd (lt_irrefl y (below_first y x l h p y (same y ∙ in_first y m))))

pub only_merged : (a b c : List ℕ) → ascending a ≡ true → ascending b ≡ true → ascending c ≡ true → ((key : ℕ) → is_in key c ≡ is_in key a || is_in key b) → c ≡ merged a b
only_merged a b c p q r same = ascending_same c (merged a b) r (merged_ascends a b p q) (λ key. same key ∙ sym (in_merged key a b))

-- ---- its count

-- how many keys of the one list are in the other too
unfoldable pub in_both : List ℕ → List ℕ → ℕ
in_both [] b = 0
in_both (x ∷ a) b = cond (is_in x b) 1 0 + in_both a b

-- a key below all keys of the one list adds none
both_rest : (y : ℕ) (a b : List ℕ) → BelowAll y a → in_both a (y ∷ b) ≡ in_both a b
unfolding in_both
both_rest y [] b below = refl
both_rest y (x ∷ a) b below = rw (in_rest x y b (below x (in_first x a)), both_rest y a b (λ key e. below key (rw e (or-true (eqb key x)))))

pub merged_counts : (a b : List ℕ) → ascending a ≡ true → ascending b ≡ true → length (merged a b) + in_both a b ≡ length a + length b
unfolding in_both
merged_counts [] b p q = rw (empty-merged b) (omega arith)
merged_counts (x ∷ a) [] p q = rw (merged-empty (x ∷ a)) (omega (arith, none_both a))
  where
    none_both : (l : List ℕ) → in_both l [] ≡ 0
    none_both [] = refl
    none_both (z ∷ l) = omega (arith, none_both l)
merged_counts (x ∷ a) (y ∷ b) p q =
    let a-ascends = ascending_rest x a p in
    let b-ascends = ascending_rest y b q in
    by_order x y
    (λ h. rw (merged_below x y a b h, below_absent x (y ∷ b) (below_first x y b h q)) (omega (arith, merged_counts a (y ∷ b) a-ascends q)))
    (λ (e : x ≡ y). rw (merged_same x y a b e, eq-eqb x y e, both_rest y a b (rw (← e) (ascending_first x a p))) (omega (arith, merged_counts a b a-ascends b-ascends)))
    (λ h. rw (merged_above x y a b h) (omega (arith, both_rest y (x ∷ a) b (below_first y x a h p), merged_counts (x ∷ a) b p b-ascends)))

-- ---- what the call answers

-- 25 where either list does not ascend, whatever the places
pub merge_not_ascending : (a b : List ℕ) (room : ℕ) → ascending a && ascending b ≡ false → merge_of a b room ≡ (25, 0)
unfolding merge_of merge_refusal
merge_not_ascending a b room e = rw e

-- 26 where both ascend and the places are fewer than the merged keys
pub merge_too_few : (a b : List ℕ) (room : ℕ) → ascending a ≡ true → ascending b ≡ true → room < length (merged a b) → merge_of a b room ≡ (26, 0)
unfolding merge_of merge_refusal
merge_too_few a b room p q h = rw (p, q, lt-ltb room (length (merged a b)) h)

-- and else the count
pub merge_fits : (a b : List ℕ) (room : ℕ) → ascending a ≡ true → ascending b ≡ true → length (merged a b) ≤ room → merge_of a b room ≡ (0, length (merged a b))
unfolding merge_of merge_refusal
merge_fits a b room p q h = rw (p, q, le-ltb room (length (merged a b)) h)

-- where there is a count, both lists ascend, it is that of the merged list, the places are enough, and nothing refuses
-- the call
pub merge_accepted : (a b : List ℕ) (room n : ℕ) → merge_of a b room ≡ (0, n) → (ascending a ≡ true) × (ascending b ≡ true) × (n ≡ length (merged a b)) × (length (merged a b) ≤ room) × (merge_refusal a b room ≡ 0)
unfolding merge_of merge_refusal
merge_accepted a b room n e =
    let k : merge_refusal a b room ≡ 0 = ap (λ (x : ℕ × ℕ). x.0) e in
    let clear = none_fit ((25, not (ascending a && ascending b)) ∷ (26, ltb room (length (merged a b))) ∷ []) refl k in
    let ascend = and_parts (ascending a) (ascending b) (not-false (ascending a && ascending b) clear.0) in
    (ascend.0, ascend.1, sym (ap (λ (x : ℕ × ℕ). x.1) e) ∙ ap (λ (r : ℕ). cond (eqb r 0) (length (merged a b)) 0) k, ltb-false room (length (merged a b)) clear.1.0, k)

-- no two cases of the code's answer are the same answer: the case is found again in it
abbrev case_of : ℕ × ℕ → Result ℕ MergeError
case_of r = cond (eqb r.0 0) (Ok r.1) (Err (cond (eqb r.0 25) merge-errors.NotAscending merge-errors.TooFewPlaces))

case_again : (r : Result ℕ MergeError) → case_of (merge_answer r) ≡ r
case_again (Ok n) = refl
case_again (Err merge-errors.NotAscending) = refl
case_again (Err merge-errors.TooFewPlaces) = refl

pub merge_case : (r s : Result ℕ MergeError) → merge_answer r ≡ merge_answer s → r ≡ s
merge_case r s e = sym (case_again r) ∙ ap case_of e ∙ case_again s

-- ---- what it leaves in the places

-- where it answers n keys
module _ (a b out : List ℕ) (n : ℕ) (e : merge_of a b (length out) ≡ (0, n)) where
  after_is : merged_after a b out ≡ over_front (merged a b) out
  unfolding merged_after
  after_is = rw (merge_accepted a b (length out) n e).4

  -- the first n places hold the merged list
  pub merge_front : take n (merged_after a b out) ≡ merged a b
  unfolding over_front
  merge_front = rw after_is (take_at (merged a b) (drop (length (merged a b)) out) n (sym (merge_accepted a b (length out) n e).2))

  -- so they ascend
  pub merge_ascends : ascending (take n (merged_after a b out)) ≡ true
  merge_ascends = let m = merge_accepted a b (length out) n e in rw merge_front (merged_ascends a b m.0 m.1)

  -- and hold a key exactly where either list has it
  pub merge_holds : (key : ℕ) → is_in key (take n (merged_after a b out)) ≡ is_in key a || is_in key b
  merge_holds key = rw merge_front (in_merged key a b)

  -- the places past them are as they were
  pub merge_stays : drop n (merged_after a b out) ≡ drop n out
  unfolding over_front
  merge_stays =
      let c = (merge_accepted a b (length out) n e).2 in
      rw (after_is, c) (drop_at (merged a b) (drop (length (merged a b)) out) (length (merged a b)) refl)

-- refused, it leaves all places as they were
pub merge_refused : (a b out : List ℕ) (k : ℕ) → (merge_of a b (length out)).0 ≡ suc k → merged_after a b out ≡ out
unfolding merge_of merged_after
merge_refused a b out k e = let r : merge_refusal a b (length out) ≡ suc k = e in rw (r, ne_eqb (suc k) 0 (λ z. omega (arith, z)))
