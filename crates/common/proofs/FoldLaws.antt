-- What a chain of iterators gives, in this repository's words by index: `fold` and `all` over a list, or over two or
-- three side by side.
-- Assumes nothing.
use mathlib.Core.Path.{◌≡◌, refl, sym, ap, ◌∙◌}
use mathlib.Core.Bool.{Bool, true, ◌&&◌, and-true, and_assoc}
use mathlib.Core.List.{List, [], ◌∷◌}
use Rattle.std.specs.Prelude.{Option}
use Prim.Native.Nat.{ℕ, suc, ◌<◌, zero-le, suc-le-suc}
use native.Mathlib.Omega.{arith}
use lib.Bits.{bit_xor, xor_zero_r}
use lib.ListN.{length, get_or}
use denote.Param.Members.{Mut}
use Rattle.std.specs.Fn.{Called}
use Rattle.std.specs.Iterator.{Drains}
use Rattle.std.specs.List.{fold, zip, list_all, FoldsTo}
use Rattle.std.proofs.lemmas.Fn.{fold_over}
use Rattle.std.proofs.lemmas.Iterator.{YieldsList}
use Rattle.std.proofs.lemmas.List.Sums.{fold_push}
use Rattle.std.proofs.lemmas.Slice.Zip.{length-zip, get_or-zip}
use Rattle.common.specs.Lists.{list_of, all, xor_of}
use Rattle.common.proofs.ListsLaws.{list_of_is, all_front}
use Rattle.common.proofs.XorLaws.{xor_assoc}

-- A fold gives the last of the values F 0, F 1, .., where F 0 is its first and each next one is the step from the one
-- before it: every lemma on `fold` below is this one.
pub fold_is : {A B : Type 0} (f : B → A → B) (d : A) (s : List A) (a : B) (F : ℕ → B) → F 0 ≡ a
    → ((i : ℕ) → i < length s → F (suc i) ≡ f (F i) (get_or s i d)) → fold f a s ≡ F (length s)
fold_is f d [] a F e h = sym e
fold_is f d (x ∷ s) a F e h =
    fold_is f d s (f a x) (λ i. F (suc i)) (h 0 (suc-le-suc zero-le) ∙ ap (λ b. f b x) e) (λ i l. h (suc i) (suc-le-suc l))

-- ---- the call in the code

-- What `fold` over a chain returns, where each call of the closure makes the step: an answer cites it with the call's
-- clause `ran` and the list that the chain gives.
pub fold_from_yields_List : {S A B F C : Type 0} {steps : S → Option A → S → Type 0} {v : A → B} {g : Mut F (C × (A × Unit {0})) C} {s : S} {l : List B}
    (h : C → B → C) (f : F) (a r : C) → (xs : List A) × (j : F) × Drains steps s xs × FoldsTo {P = F × C} (λ p x q. Called g p.0 (p.1, (x, tt)) q.1 q.0) (f, a) xs (j, r)
    → YieldsList steps v s l → ((c : C) (x : A) (b : C) (q : F) → Called g f (c, (x, tt)) b q → (q ≡ f) × (b ≡ h c (v x))) → r ≡ fold h a l
fold_from_yields_List {steps = steps} {v = v} {g = g} {s = s} {l = l} h f a r ran y k =
    fold_over steps v g (λ ys c. c ≡ fold h a ys) f
    (λ ys c x b j e q. let z = k c x b j q in (z.1 ∙ ap (λ c. h c (v x)) e ∙ sym (fold_push h a ys (v x)), z.0)) s l a r y.runs refl ran

-- ---- tests

-- `s.iter().fold(true, |ok, x| ok & p(x))`
pub fold_all : (p : ℕ → Bool) (s : List ℕ) → fold (λ ok x. ok && p x) true s ≡ all (length s) (λ i. p (get_or s i 0))
unfolding all
fold_all p s = fold_is (λ ok x. ok && p x) 0 s true (λ n. all n (λ i. p (get_or s i 0))) refl (λ i h. refl)

-- the same in the library's word
pub fold_list_all : {A : Type 0} (p : A → Bool) (s : List A) → fold (λ ok x. ok && p x) true s ≡ list_all p s
fold_list_all {A = A} p s = from true s
  where
    from : (r : Bool) (s : List A) → fold (λ ok x. ok && p x) r s ≡ r && list_all p s
    from r [] = sym (and-true r)
    from r (x ∷ s) = from (r && p x) s ∙ and_assoc r (p x) (list_all p s)

-- `s.iter().all(|x| p(x))`
pub list_all_is : (p : ℕ → Bool) (s : List ℕ) → list_all p s ≡ all (length s) (λ i. p (get_or s i 0))
unfolding all
list_all_is p [] = refl
list_all_is p (x ∷ s) = ap (λ b. p x && b) (list_all_is p s) ∙ sym (all_front (length s) (λ i. p (get_or (x ∷ s) i 0)))

-- `a.iter().zip(b).fold(true, |ok, (x, y)| ok & p(x, y))` at two lists of one length
pub fold_zip_all : (p : ℕ → ℕ → Bool) (a b : List ℕ) → length a ≡ length b
    → fold (λ ok x. ok && p x.0 x.1) true (zip a b) ≡ all (length a) (λ i. p (get_or a i 0) (get_or b i 0))
unfolding all
fold_zip_all p a b e =
    let n : length (zip a b) ≡ length a = omega (arith, length-zip a b) in
    rw n at (fold_is (λ ok (x : ℕ × ℕ). ok && p x.0 x.1) (0, 0) (zip a b) true (λ n. all n (λ i. p (get_or a i 0) (get_or b i 0))) refl
    (λ i h. ap (λ (x : ℕ × ℕ). all i (λ i. p (get_or a i 0) (get_or b i 0)) && p x.0 x.1) (sym (get_or-zip a b i (0, 0) (omega (arith, h, n)) (omega (arith, h, n))))))

-- the same at three, `a.iter().zip(b).zip(c).fold(true, |ok, ((x, y), z)| ok & p(x, y, z))`
pub fold_zip_three : (p : ℕ → ℕ → ℕ → Bool) (a b c : List ℕ) → length a ≡ length b → length a ≡ length c
    → fold (λ ok x. ok && p x.0.0 x.0.1 x.1) true (zip (zip a b) c) ≡ all (length a) (λ i. p (get_or a i 0) (get_or b i 0) (get_or c i 0))
unfolding all
fold_zip_three p a b c e k =
    let n : length (zip a b) ≡ length a = omega (arith, length-zip a b) in
    let m : length (zip (zip a b) c) ≡ length a = omega (arith, length-zip (zip a b) c) in
    rw m at (fold_is (λ ok (x : (ℕ × ℕ) × ℕ). ok && p x.0.0 x.0.1 x.1) ((0, 0), 0) (zip (zip a b) c) true (λ n. all n (λ i. p (get_or a i 0) (get_or b i 0) (get_or c i 0))) refl
    (λ i h.
    ap (λ (x : (ℕ × ℕ) × ℕ). all i (λ i. p (get_or a i 0) (get_or b i 0) (get_or c i 0)) && p x.0.0 x.0.1 x.1)
    (sym (get_or-zip (zip a b) c i ((0, 0), 0) (omega (arith, h, m, n)) (omega (arith, h, m, k))
    ∙ ap (λ (x : ℕ × ℕ). (x, get_or c i 0)) (get_or-zip a b i (0, 0) (omega (arith, h, m)) (omega (arith, h, m)))))))

-- ---- numbers

-- `s.iter().fold(z, |x, y| x ^ y)`
pub fold_xor : (z : ℕ) (s : List ℕ) → fold (λ x y. bit_xor x y) z s ≡ bit_xor z (xor_of s)
unfolding xor_of
fold_xor z [] = sym (xor_zero_r z)
fold_xor z (x ∷ s) = fold_xor (bit_xor z x) s ∙ xor_assoc z x (xor_of s)

-- ---- lists

-- all numbers of a list by index
pub list_of_get : (s : List ℕ) → list_of (length s) (λ i. get_or s i 0) ≡ s
list_of_get s = list_of_is (length s) (λ i. get_or s i 0) s refl (λ i h. refl)
