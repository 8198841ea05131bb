-- How the code goes about a merge: the pairs that tell whether a list ascends, and the merged list key by key; then
-- the same merge by places in both lists, and where one is used up, what is left of the other follows.
-- Assumes nothing.
use mathlib.Core.Path.{◌≡◌, refl, sym, ap, ap₂, subst, ◌∙◌}
use mathlib.Core.Bool.{Bool, true, false, cond, ◌&&◌, and-true, and_assoc}
use mathlib.Core.List.{List, [], ◌∷◌, ◌++◌, append-nil, append_assoc}
use Prim.Native.Nat.{ℕ, suc, ◌+◌, ◌-◌, ◌≤◌, ◌<◌}
use native.Mathlib.Nat.{le_of_eq, add-zero}
use native.Mathlib.Numerals.{add-one}
use native.Mathlib.Omega.{arith}
use borrow.Author.Tests.{ltb-true, ltb-false, eqb-true, eqb-false}
use lib.Dec.{eqb, ltb}
use lib.ListN.{length, get_or, set, take, drop, length-drop, length-append, take-append-drop, get_or-append}
use lib.Seq.{take_all, drop-cons, drop-drop, drop-length, get_or-drop, get_or-take, get_or-append-add, length-take-le}
use borrow.Rule.Slice.PartMut.{put_mid}
use mir.Val.{bool_byte}
use Rattle.std.specs.List.{fold}
use Rattle.std.specs.Slice.Iter.{windows_rest, windows_size, windows_steps}
use Rattle.std.specs.declared.slice.Windows.{Windows}
use Rattle.std.proofs.lemmas.Iterator.{YieldsList}
use Rattle.std.proofs.lemmas.Iterator.Splits.{YieldsList-from_shown_while}
use Rattle.common.specs.Lists.{written, over_front, over_places}
use Rattle.common.proofs.TestLaws.{and_parts}
use Rattle.common.proofs.ListsLaws.{list_of_is, written_ext, written_on, front_written, over_next}
use Rattle.common.proofs.LoopLaws.{WrittenSoFar, writing_front}
use Rattle.ccl.specs.Merge.{ascending, merged}
use Rattle.ccl.proofs.MergeLaws.{empty_ascends, one_ascends, ascending_pair, by_order, empty-merged, merged-empty, merged_below, merged_same, merged_above}

-- ---- each key and the one after it

abbrev pub pairs_of : List ℕ → List (List ℕ)
pairs_of [] = []
pairs_of (x ∷ []) = []
pairs_of (x ∷ y ∷ l) = (x ∷ y ∷ []) ∷ pairs_of (y ∷ l)

pairs_more : (l : List ℕ) {w r : List ℕ} → 2 ≤ length l → w ≡ take 2 l → r ≡ drop 1 l → pairs_of l ≡ w ∷ pairs_of r
pairs_more [] h p q = absurd (omega arith)
pairs_more (x ∷ []) h p q = absurd (omega arith)
pairs_more (x ∷ y ∷ l) h p q = rw (p, q)

pairs_none : (l : List ℕ) → length l < 2 → length (pairs_of l) ≡ 0
pairs_none [] h = refl
pairs_none (x ∷ []) h = refl
pairs_none (x ∷ y ∷ l) h = absurd (omega arith)

-- they are what `windows(2)` gives
pub windows_pairs : (s : Windows ℕ) (l : List ℕ) → windows_rest s ≡ l → windows_size s ≡ 2 → YieldsList windows_steps (λ w. w.now) s (pairs_of l)
windows_pairs s l e size =
    subst (λ (m : List ℕ). YieldsList windows_steps (λ w. w.now) s (pairs_of m)) e
    (YieldsList-from_shown_while windows_steps (λ w. w.now) (λ t. pairs_of (windows_rest t)) (λ t. windows_size t ≡ 2)
    (λ t u p h. pairs_none (windows_rest t) (omega (arith, p, h.1.0)))
    (λ t x u p h. (h.0 ∙ p, pairs_more (windows_rest t) (omega (arith, p, h.1.0)) (h.1.1 ∙ ap (λ (n : ℕ). take n (windows_rest t)) p) h.1.2)) s size)

-- where each first is below its second, the list ascends
pub pairs_ascend : (l : List ℕ) → fold (λ ok w. ok && ltb (get_or w 0 0) (get_or w 1 0)) true (pairs_of l) ≡ ascending l
pairs_ascend l = go true l
  where
    go : (b : Bool) (l : List ℕ) → fold (λ ok w. ok && ltb (get_or w 0 0) (get_or w 1 0)) b (pairs_of l) ≡ b && ascending l
    go b [] = rw empty_ascends (sym (and-true b))
    go b (x ∷ []) = rw (one_ascends x) (sym (and-true b))
    go b (x ∷ y ∷ l) = go (b && ltb x y) (y ∷ l) ∙ and_assoc b (ltb x y) (ascending (y ∷ l)) ∙ ap (λ (t : Bool). b && t) (sym (ascending_pair x y l))

-- ---- the next key, as long as both lists have one

-- a list with a key, and its first key
first_is : (l : List ℕ) {x : ℕ} → 0 < length l → x ≡ get_or l 0 0 → l ≡ x ∷ drop 1 l
first_is [] h e = absurd (omega arith)
first_is (y ∷ l) h e = rw e

-- what follows its first n keys, cut out to the list's end
rest_is : (n : ℕ) (l : List ℕ) → take (length l - n) (drop n l) ≡ drop n l
rest_is n l = take_all (length l - n) (drop n l) (le_of_eq (length-drop n l))

module _ (a b : List ℕ) {x y : ℕ} (m : 0 < length a) (n : 0 < length b) (p : x ≡ get_or a 0 0) (q : y ≡ get_or b 0 0) where
  -- that of a, where it is below that of b
  pub next_first : x < y → merged a b ≡ x ∷ merged (take (length a - 1) (drop 1 a)) b
  next_first h =
      ap₂ merged (first_is a m p) (first_is b n q) ∙ merged_below x y (drop 1 a) (drop 1 b) h
      ∙ ap₂ (λ (r s : List ℕ). x ∷ merged r s) (sym (rest_is 1 a)) (sym (first_is b n q))

  -- else that of b; where a's next key is the same, it is used too
  pub next_second : y ≤ x → {r : ℕ} → r ≡ bool_byte (eqb x y) → merged a b ≡ y ∷ merged (take (length a - r) (drop r a)) (take (length b - 1) (drop 1 b))
  next_second h {r} e = by (eqb x y) refl e
    where
      by : (t : Bool) → eqb x y ≡ t → r ≡ bool_byte t → merged a b ≡ y ∷ merged (take (length a - r) (drop r a)) (take (length b - 1) (drop 1 b))
      by true k f =
          ap₂ merged (first_is a m p) (first_is b n q) ∙ merged_same x y (drop 1 a) (drop 1 b) (eqb-true x y k)
          ∙ rw (f, rest_is 1 a, rest_is 1 b) (ap (λ (z : ℕ). z ∷ merged (drop 1 a) (drop 1 b)) (eqb-true x y k))
      by false k f =
          let above : y < x = omega (arith, h, eqb-false x y k) in
          ap₂ merged (first_is a m p) (first_is b n q) ∙ merged_above x y (drop 1 a) (drop 1 b) above
          ∙ rw (f, rest_is 0 a, rest_is 1 b) (ap (λ (l : List ℕ). y ∷ merged l (drop 1 b)) (sym (first_is a m p)))

-- once a list is used up, what is left of the other follows
pub next_none_a : (a b : List ℕ) → length a ≤ 0 → merged a b ≡ a ++ b
next_none_a [] b h = empty-merged b
next_none_a (x ∷ a) b h = absurd (omega arith)

pub next_none_b : (a b : List ℕ) → length b ≤ 0 → merged a b ≡ a ++ b
next_none_b a [] h = merged-empty a ∙ sym (append-nil a)
next_none_b a (y ∷ b) h = absurd (omega arith)

-- the merged list has no more keys than the two
pub merged_most : (a b : List ℕ) → length (merged a b) ≤ length a + length b
merged_most [] b = rw (empty-merged b) (omega arith)
merged_most (x ∷ a) [] = rw (merged-empty (x ∷ a)) (omega arith)
merged_most (x ∷ a) (y ∷ b) =
    by_order x y
    (λ h. rw (merged_below x y a b h) (omega (arith, merged_most a (y ∷ b))))
    (λ e. rw (merged_same x y a b e) (omega (arith, merged_most a b)))
    (λ h. rw (merged_above x y a b h) (omega (arith, merged_most (x ∷ a) b)))

-- ---- the keys stored one after another

-- the first n keys are stored, and the next one after them
pub next_stored : (s : List ℕ) {l m r : List ℕ} {n key : ℕ} → WrittenSoFar l 0 (length s) (λ t. get_or s t 0) n m → {t : List ℕ} → drop n s ≡ t → t ≡ key ∷ r
    → WrittenSoFar l 0 (length s) (λ t. get_or s t 0) (n + 1) (set m n key) × (drop (n + 1) s ≡ r)
next_stored s {r = r} {n = n} {key = key} w p q =
    let e = p ∙ q in
    let h : n < length s = omega (arith, length-drop n s, ap length e) in
    let z : n + 0 ≡ n = omega arith in
    (writing_front w h (ap (λ (l : List ℕ). get_or l 0 0) (sym e) ∙ get_or-drop n s 0 0 ∙ ap (λ (i : ℕ). get_or s i 0) z), sym (drop-drop 1 n s) ∙ ap (drop 1) e)

-- and after them what is left of both lists
part_over : (d : List ℕ) (at k : ℕ) {t s : List ℕ} → t ≡ s → k ≡ at + length s → put_mid at (k - at) d t ≡ over_places d at s
unfolding over_places
part_over d at k {t} {s} e f =
    let n : k - at ≡ length s = omega (arith, f) in
    rw (n, e, drop-drop) (sym (append_assoc (take at d) s (drop (at + length s) d)))

pub rest_stored : (s : List ℕ) {l m a b u v : List ℕ} {n : ℕ} → WrittenSoFar l 0 (length s) (λ t. get_or s t 0) n m → drop n s ≡ a ++ b → u ≡ a → v ≡ b
    → put_mid (n + length a) (n + length a + length b - (n + length a)) (put_mid n (n + length a - n) m u) v ≡ over_front s l
rest_stored s {l} {m} {a} {b} {u} {v} {n} w p e f =
    let size : length (take n s) ≡ n = length-take-le n s w.most in
    let front : m ≡ over_front (take n s) l = w.is ∙ front_written l (take n s) n (λ t. get_or s t 0) (list_of_is n (λ t. get_or s t 0) (take n s) size (λ i h. sym (get_or-take n s i 0 h))) in
    let first : put_mid n (n + length a - n) m u ≡ over_front (take n s ++ a) l = part_over m n (n + length a) e refl ∙ over_next (take n s) a l front (sym size) in
    part_over (put_mid n (n + length a - n) m u) (n + length a) (n + length a + length b) f refl
    ∙ over_next (take n s ++ a) b l first (omega (arith, length-append (take n s) a, size))
    ∙ ap (λ (t : List ℕ). over_front t l) (append_assoc (take n s) a b ∙ ap (λ (t : List ℕ). take n s ++ t) (sym p) ∙ take-append-drop n s)

-- ---- by places in both lists: so far

-- i keys of a and j of b are used, and k keys of the merged list are reached: what is left of it is what is left of the
-- two, merged
pub record Merging (a b : List ℕ) (i j k : ℕ) : Type 0 where
  pub in_a : i ≤ length a
  pub in_b : j ≤ length b
  pub most : k ≤ i + j
  pub count : k + length (merged (drop i a) (drop j b)) ≡ length (merged a b)
  pub left : drop k (merged a b) ≡ merged (drop i a) (drop j b)

-- nothing is used yet
pub merging_none : {a b : List ℕ} → Merging a b 0 0 0
merging_none = record { in_a = omega arith; in_b = omega arith; most = omega arith; count = omega arith; left = refl }

-- ---- one key more

-- each list has a key left
abbrev pub both_left : List ℕ → List ℕ → ℕ → ℕ → Bool
both_left a b i j = ltb i (length a) && ltb j (length b)

pub left_of_both : (a b : List ℕ) (i j : ℕ) → both_left a b i j ≡ true → (i < length a) × (j < length b)
left_of_both a b i j e = let p = and_parts (ltb i (length a)) (ltb j (length b)) e in (ltb-true i (length a) p.0, ltb-true j (length b) p.1)

-- the key x comes next, and p keys of a and q of b are used then
pub record Turn (a b : List ℕ) (k x p q : ℕ) : Type 0 where
  pub so_far : Merging a b p q (k + 1)
  pub within : k < length (merged a b)
  pub next : x ≡ get_or (merged a b) k 0

turn : {a b : List ℕ} {i j k : ℕ} → Merging a b i j k → (x p q : ℕ) → p ≤ length a → q ≤ length b → k < p + q → merged (drop i a) (drop j b) ≡ x ∷ merged (drop p a) (drop q b) → Turn a b k x p q
turn {a} {b} {i} {j} {k} m x p q h l n e =
    let z : k + 0 ≡ k = omega arith in
    let c : k + 1 + length (merged (drop p a) (drop q b)) ≡ length (merged a b) = omega (arith, m.count, ap length e) in
    record {
      so_far = record { in_a = h; in_b = l; most = omega arith; count = c; left = sym (drop-drop 1 k (merged a b)) ∙ rw (m.left, e) };
      within = omega (arith, c);
      next = ap (λ (s : List ℕ). get_or s 0 0) (sym (m.left ∙ e)) ∙ get_or-drop k (merged a b) 0 0 ∙ ap (λ (n : ℕ). get_or (merged a b) n 0) z;
    }

-- that of a, where it is below that of b
pub turn_first : {a b : List ℕ} {i j k : ℕ} → Merging a b i j k → both_left a b i j ≡ true → get_or a i 0 < get_or b j 0 → Turn a b k (get_or a i 0) (i + 1) j
turn_first {a} {b} {i} {j} {k} m t h =
    let n = left_of_both a b i j t in
    let x = get_or a i 0 in
    let y = get_or b j 0 in
    let e : drop i a ≡ x ∷ drop (i + 1) a = rw add-one (drop-cons a i 0 n.0) in
    let f : drop j b ≡ y ∷ drop (suc j) b = drop-cons b j 0 n.1 in
    turn m x (i + 1) j (omega (arith, n.0)) m.in_b (omega (arith, m.most)) (rw (e, f) (merged_below x y (drop (i + 1) a) (drop (suc j) b) h))

-- and else that of b; where a's next key is the same, it is used too
pub turn_second : {a b : List ℕ} {i j k r : ℕ} → Merging a b i j k → both_left a b i j ≡ true → get_or b j 0 ≤ get_or a i 0 → r ≡ cond (eqb (get_or a i 0) (get_or b j 0)) 1 0
    → Turn a b k (get_or b j 0) (i + r) (j + 1)
turn_second {a} {b} {i} {j} {k} {r} m t h w = by (eqb (get_or a i 0) (get_or b j 0)) refl w
  where
    n : (i < length a) × (j < length b)
    n = left_of_both a b i j t

    e : drop i a ≡ get_or a i 0 ∷ drop (i + 1) a
    e = rw add-one (drop-cons a i 0 n.0)

    f : drop j b ≡ get_or b j 0 ∷ drop (j + 1) b
    f = rw add-one (drop-cons b j 0 n.1)

    made : (z : ℕ) → r ≡ z → z ≤ 1 → merged (drop i a) (drop j b) ≡ get_or b j 0 ∷ merged (drop (i + z) a) (drop (j + 1) b) → Turn a b k (get_or b j 0) (i + r) (j + 1)
    made z v l q = rw v (turn m (get_or b j 0) (i + z) (j + 1) (omega (arith, n.0)) (omega (arith, n.1)) (omega (arith, m.most)) q)

    by : (s : Bool) → eqb (get_or a i 0) (get_or b j 0) ≡ s → r ≡ cond s 1 0 → Turn a b k (get_or b j 0) (i + r) (j + 1)
    by true p v =
        let same = eqb-true (get_or a i 0) (get_or b j 0) p in
        made 1 v (omega arith) (rw (e, f) (merged_same (get_or a i 0) (get_or b j 0) (drop (i + 1) a) (drop (j + 1) b) same ∙ ap (λ (z : ℕ). z ∷ merged (drop (i + 1) a) (drop (j + 1) b)) same))
    by false p v =
        let above : get_or b j 0 < get_or a i 0 = omega (arith, h, eqb-false (get_or a i 0) (get_or b j 0) p) in
        made 0 v (omega arith) (rw (add-zero, e, f) (merged_above (get_or a i 0) (get_or b j 0) (drop (i + 1) a) (drop (j + 1) b) above))

-- where both lists have a key left, the merged list has one too
pub some_turn : {a b : List ℕ} {i j k : ℕ} → Merging a b i j k → both_left a b i j ≡ true → k < length (merged a b)
some_turn {a} {b} {i} {j} {k} m t =
    by_order (get_or a i 0) (get_or b j 0) (λ h. (turn_first m t h).within) (λ e. (turn_second m t (omega (arith, e)) refl).within) (λ h. (turn_second m t (omega arith) refl).within)

-- ---- one list is used up

nothing_left_lem : (i : ℕ) (a : List ℕ) → i ≤ length a → length a ≤ i → drop i a ≡ []
nothing_left_lem i a h l = let e : i ≡ length a = omega arith in rw e (drop-length a)

used_up : (a b : List ℕ) (i j : ℕ) → i ≤ length a → j ≤ length b → both_left a b i j ≡ false → merged (drop i a) (drop j b) ≡ drop i a ++ drop j b
used_up a b i j h l e = go (ltb i (length a)) refl e
  where
    go : (t : Bool) → ltb i (length a) ≡ t → t && ltb j (length b) ≡ false → merged (drop i a) (drop j b) ≡ drop i a ++ drop j b
    go true p q = rw (nothing_left_lem j b l (ltb-false j (length b) q)) (merged-empty (drop i a) ∙ sym (append-nil (drop i a)))
    go false p q = rw (nothing_left_lem i a h (ltb-false i (length a) p)) (empty-merged (drop j b))

-- what is left of the merged list, and its count
pub merging_end : {a b : List ℕ} {i j k : ℕ} → Merging a b i j k → both_left a b i j ≡ false
    → (k + (length a - i) + (length b - j) ≡ length (merged a b)) × (drop k (merged a b) ≡ drop i a ++ drop j b)
merging_end {a} {b} {i} {j} {k} m e =
    let u = used_up a b i j m.in_a m.in_b e in
    let n : length (merged (drop i a) (drop j b)) ≡ (length a - i) + (length b - j) = ap length u ∙ rw (length-append, length-drop, length-drop) in
    (omega (arith, m.count, n), m.left ∙ u)

-- ---- what is left follows

-- the keys reached are written, then what is left of a, then what is left of b
pub merging_whole : {a b l l₁ l₂ l₃ : List ℕ} {i j k : ℕ} → Merging a b i j k → both_left a b i j ≡ false
    → WrittenSoFar l 0 (length (merged a b)) (λ t. get_or (merged a b) t 0) k l₁ → l₂ ≡ written l₁ k (length a - i) (λ t. get_or a (i + t) 0) → l₃ ≡ written l₂ (k + (length a - i)) (length b - j) (λ t. get_or b (j + t) 0)
    → l₃ ≡ over_front (merged a b) l
merging_whole {a} {b} {l} {l₁} {l₂} {l₃} {i} {j} {k} m end p q r =
    let s = merged a b in
    let f : ℕ → ℕ = λ t. get_or s t 0 in
    let n = length a - i in
    let o = merging_end m end in
    let w : length (drop i a) ≡ n = length-drop i a in
    let in_left : (t : ℕ) → get_or (drop i a ++ drop j b) t 0 ≡ f (k + t) = λ t. rw (← o.1) (get_or-drop k s t 0) in
    let of-a : (t : ℕ) → t < n → get_or a (i + t) 0 ≡ f (k + t) =
    λ t h. sym (get_or-drop i a t 0) ∙ sym (get_or-append (drop i a) (drop j b) 0 t (rw w h)) ∙ in_left t
    in
    let of-b : (t : ℕ) → t < length b - j → get_or b (j + t) 0 ≡ f (k + n + t) =
    λ t h. sym (get_or-drop j b t 0) ∙ sym (get_or-append-add (drop i a) (drop j b) t 0) ∙ in_left (length (drop i a) + t) ∙ ap f (omega (arith, w))
    in
    let x : l₂ ≡ written l 0 (k + n) f = q ∙ rw p.is (written_ext (written l 0 k f) k n of-a ∙ written_on l k n f) in
    let y : l₃ ≡ written l 0 (k + n + (length b - j)) f =
    r ∙ rw x (written_ext (written l 0 (k + n) f) (k + n) (length b - j) of-b ∙ written_on l (k + n) (length b - j) f)
    in
    y ∙ rw o.0 (front_written l s (length s) f (list_of_is (length s) f s refl (λ i h. refl)))
