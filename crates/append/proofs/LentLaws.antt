-- Texts added one after another to a lent buffer, also by a loop.
-- Assumes nothing.
use mathlib.Core.Path.{◌≡◌, refl, sym, ap, ap₂, ◌∙◌, subst}
use mathlib.Core.Bool.{Bool, true, false, cond}
use mathlib.Core.List.{List, [], ◌∷◌, ◌++◌, append-nil, append_assoc}
use Prim.Native.Nat.{ℕ, zero, suc, ◌+◌, ◌-◌, ◌*◌, ◌≤◌, ◌<◌, min}
use native.Mathlib.Nat.{le_of_eq, le_refl, zero-add}
use native.Mathlib.Numerals.{add-one}
use native.Mathlib.Omega.{arith}
use lib.ListN.{length, take, drop, replicate, take-append-drop, length-append, length-take, length-drop, drop_of_length-le}
use lib.Seq.{take_all, take_at, take-append_seam, take-append-add, drop-append-add, drop-append_seam, drop-drop, length-take-le}
use Rattle.std.proofs.lemmas.List.{drop_at, drop-replicate}
use Rattle.common.specs.Lists.{list_of, written, over_front, over_places}
use Rattle.common.proofs.ListsLaws.{length-list_of, list_of-append, length_front, take_most}
use Rattle.text.specs.Hex.{hex_digit_at, hex_of}
use Rattle.text.proofs.HexLaws.{length_hex}
use Rattle.append.specs.Append.{Blank, added, added_at, Added, texts_of}

-- ---- one text after another

take_on : (n : ℕ) (x t : List ℕ) → take n (take n x ++ t) ≡ take n (x ++ t)
take_on zero x t = refl
take_on (suc n) [] t = refl
take_on (suc n) (a ∷ x) t = ap (λ (l : List ℕ). a ∷ l) (take_on n x t)

-- a longer text over the same front
front_over : (p q b : List ℕ) → length p ≤ length q → over_front q (over_front p b) ≡ over_front q b
unfolding over_front
front_over p q b h =
    let e : length q ≡ length p + (length q - length p) = omega (arith, h) in
    let d : drop (length q) (p ++ drop (length p) b) ≡ drop (length q) b =
    ap (λ (n : ℕ). drop n (p ++ drop (length p) b)) e ∙ drop-append-add p (drop (length p) b) (length q - length p)
    ∙ drop-drop (length q - length p) (length p) b ∙ ap (λ (n : ℕ). drop n b) (sym e) in
    ap (λ (l : List ℕ). q ++ l) d

front_taken : (p b : List ℕ) → take (length p) (over_front p b) ≡ p
unfolding over_front
front_taken p b = take-append_seam p (drop (length p) b)

added_on : (b s t : List ℕ) (at : ℕ) → added_at (added_at b at s).1 (added_at b at s).0 t ≡ added_at b at (s ++ t)
unfolding added_at
added_on b s t at =
    let n = length b in
    let p = take n (take at b ++ s) in
    let q = take n (take at b ++ (s ++ t)) in
    let short : length p ≤ n = rw length-take (omega arith) in
    let e : take (length (over_front p b)) (take (length p) (over_front p b) ++ t) ≡ q =
    ap₂ (λ (k : ℕ) (l : List ℕ). take k (l ++ t)) (length_front p b short) (front_taken p b) ∙ take_on n (take at b ++ s) t
    ∙ ap (λ (l : List ℕ). take n l) (append_assoc (take at b) s t) in
    let longer : length p ≤ length q = simp (length-take, length-append) (omega arith) in
    ap (λ (l : List ℕ). (length l, over_front l (over_front p b))) e ∙ ap (λ (l : List ℕ). (length q, l)) (front_over p q b longer)

-- one text and then another; the law of this crate
infixl 60 ◌then◌
pub ◌then◌ : {b0 b1 b2 : List ℕ} {at n m : ℕ} {s t : List ℕ} → Added b0 at b1 n s → Added b1 n b2 m t → Added b0 at b2 m (s ++ t)
◌then◌ {b0} {b1} {b2} {at} {n} {m} {s} {t} p q = record { is = q.is ∙ ap (λ (x : ℕ × List ℕ). added_at x.1 x.0 t) p.is ∙ added_on b0 s t at }

-- the same text by another name
pub same_text : {b0 b1 : List ℕ} {at n : ℕ} {s t : List ℕ} → s ≡ t → Added b0 at b1 n s → Added b0 at b1 n t
same_text {b0} {b1} {at} {n} e p = subst (Added b0 at b1 n) e p

-- a text that goes by a test
pub when : {b0 b1 : List ℕ} {at n : ℕ} {s : List ℕ} (t : List ℕ) {x : Bool} → x ≡ true → Added b0 at b1 n s → Added b0 at b1 n (cond x s t)
when {s = s} t e p = same_text (ap (λ (b : Bool). cond b s t) (sym e)) p

pub unless : {b0 b1 : List ℕ} {at n : ℕ} (s : List ℕ) {t : List ℕ} {x : Bool} → x ≡ false → Added b0 at b1 n t → Added b0 at b1 n (cond x s t)
unless s {t} e p = same_text (ap (λ (b : Bool). cond b s t) (sym e)) p

-- what stands in the buffer lies within it
inside : (b s : List ℕ) (at : ℕ) → ((added_at b at s).0 ≤ length b) × (length (added_at b at s).1 ≡ length b)
unfolding added_at
inside b s at =
    let short : length (take (length b) (take at b ++ s)) ≤ length b = rw length-take (omega arith) in
    (short, length_front (take (length b) (take at b ++ s)) b short)

pub added_long : {b0 b1 : List ℕ} {at n : ℕ} {s : List ℕ} → Added b0 at b1 n s → length b1 ≡ length b0
added_long {b0} {at = at} {s = s} p = ap (λ (x : ℕ × List ℕ). length x.1) p.is ∙ (inside b0 s at).1

pub added_inside : {b0 b1 : List ℕ} {at n : ℕ} {s : List ℕ} → Added b0 at b1 n s → n ≤ length b1
added_inside {b0} {at = at} {s = s} p = let e = ap (λ (x : ℕ × List ℕ). x.0) p.is in omega (arith, (inside b0 s at).0, e, added_long p)

-- so that nothing more leaves all as it is: a loop begins there
pub added_none : (b : List ℕ) (at : ℕ) → at ≤ length b → Added b at b at []
unfolding added_at over_front
added_none b at h =
    let e : take (length b) (take at b ++ []) ≡ take at b =
    ap (λ (l : List ℕ). take (length b) l) (append-nil (take at b)) ∙ take_all (length b) (take at b) (rw length-take (omega arith)) in
    let k : length (take at b) ≡ at = length-take-le at b h in
    record {
      is = sym (ap (λ (l : List ℕ). (length l, l ++ drop (length l) b)) e ∙ ap (λ (i : ℕ). (i, take at b ++ drop i b)) k
          ∙ ap (λ (l : List ℕ). (at, l)) (take-append-drop at b));
    }

pub stays : {b0 b1 : List ℕ} {at n : ℕ} {s : List ℕ} → Added b0 at b1 n s → Added b1 n b1 n []
stays {b1 = b1} {n = n} p = added_none b1 n (added_inside p)

-- what stands there then: the text after the first `at` bytes, as far as there is room
taken_of : (b s : List ℕ) (at : ℕ) → take (added_at b at s).0 (added_at b at s).1 ≡ take (length b) (take at b ++ s)
unfolding added_at
taken_of b s at = front_taken (take (length b) (take at b ++ s)) b

pub added_taken : {b0 b1 : List ℕ} {at n : ℕ} {s : List ℕ} → Added b0 at b1 n s → take n b1 ≡ take (length b0) (take at b0 ++ s)
added_taken {b0} {at = at} {s = s} p = ap (λ (x : ℕ × List ℕ). take x.0 x.1) p.is ∙ taken_of b0 s at

-- a text at the front of a buffer that has room for it
front_of : (b s : List ℕ) → length s ≤ length b → added_at b 0 s ≡ (length s, over_front s b)
unfolding added_at
front_of b s h = ap (λ (t : List ℕ). (length t, over_front t b)) (take_all (length b) s h)

pub added_front : {b0 b1 : List ℕ} {n : ℕ} {s : List ℕ} → Added b0 0 b1 n s → length s ≤ length b0 → (n ≡ length s) × (b1 ≡ over_front s b0)
added_front {b0} {s = s} p h =
    let e = p.is ∙ front_of b0 s h in
    (ap (λ (x : ℕ × List ℕ). x.0) e, ap (λ (x : ℕ × List ℕ). x.1) e)

-- where the buffer is not full, nothing was cut: the whole text stands after the first `at` bytes
whole_of : (b s : List ℕ) (at : ℕ) → (added_at b at s).0 < length b → take (added_at b at s).0 (added_at b at s).1 ≡ take at b ++ s
unfolding added_at
whole_of b s at h =
    let t = take at b ++ s in
    let short : length t ≤ length b = omega (arith, h, length-take (length b) t) in
    taken_of b s at ∙ take_all (length b) t short

pub added_whole : {b0 b1 : List ℕ} {at n : ℕ} {s : List ℕ} → Added b0 at b1 n s → n < length b0 → take n b1 ≡ take at b0 ++ s
added_whole {b0} {b1} {at} {n} {s} p h =
    let e = ap (λ (x : ℕ × List ℕ). x.0) p.is in
    ap (λ (x : ℕ × List ℕ). take x.0 x.1) p.is ∙ whole_of b0 s at (rw (← e) h)

-- ---- a text a turn

-- of the n texts f, the first i are added to the buffer b after its first `at` bytes, f 0 first; m bytes stand in the
-- buffer d then
pub record AddedSoFar (b : List ℕ) (at n : ℕ) (f : ℕ → List ℕ) (i : ℕ) (d : List ℕ) (m : ℕ) : Type 0 where
  pub most : i ≤ n
  pub long : length d ≡ length b
  pub is : Added b at d m (texts_of i f)

-- none is added yet; what stands in the buffer was added before
pub adding_none : {a b : List ℕ} {at n m : ℕ} {s : List ℕ} {f : ℕ → List ℕ} → Added a at b m s → AddedSoFar b m n f 0 b m
unfolding texts_of
adding_none p = record { most = omega arith; long = refl; is = stays p }

-- one more
pub adding_more : {b d e : List ℕ} {at n i m k : ℕ} {f : ℕ → List ℕ} → AddedSoFar b at n f i d m → i < n → Added d m e k (f i) → AddedSoFar b at n f (i + 1) e k
unfolding texts_of
adding_more p h q = record { most = omega arith; long = added_long q ∙ p.long; is = rw add-one (p.is then q) }

-- all n are added, after what was added before them
pub adding_end : {a b d : List ℕ} {at n i m k : ℕ} {s : List ℕ} {f : ℕ → List ℕ} → Added a at b m s → AddedSoFar b m n f i d k → n ≤ i → Added a at d k (s ++ texts_of n f)
adding_end {n = n} {i} p q h = let e : i ≡ n = omega (arith, q.most) in p then (rw e at q.is)

-- ---- how it is written

-- nothing fits after the buffer's end
pub added_full : (b s : List ℕ) (at : ℕ) → length b ≤ at → added_at b at s ≡ (length b, b)
unfolding added_at over_front
added_full b s at h =
    let e : take (length b) (take at b ++ s) ≡ b = ap (λ (l : List ℕ). take (length b) (l ++ s)) (take_all at b h) ∙ take-append_seam b s in
    ap (λ (l : List ℕ). (length l, l ++ drop (length l) b)) e
    ∙ ap (λ (l : List ℕ). (length b, l)) (rw (drop_of_length-le b (le_refl (length b)), append-nil))

-- else it is stored as far as there is room
pub added-part : (b s t : List ℕ) (at n : ℕ) → at ≤ length b → n ≡ min (length s) (length b - at) → t ≡ take n s → (at + n, over_places b at t) ≡ added_at b at s
unfolding added_at over_front over_places
added-part b s t at n h e f =
    let room = length b - at in
    let k : length (take at b) ≡ at = length-take-le at b h in
    let size : length b ≡ length (take at b) + room = omega (arith, h, k) in
    let long : length (take n s) ≡ n = length-take-le n s (omega (arith, e)) in
    let cut : take room s ≡ t = sym (f ∙ take_most n room s e) in
    let whole : take (length b) (take at b ++ s) ≡ take at b ++ t =
    ap (λ (i : ℕ). take i (take at b ++ s)) size ∙ take-append-add (take at b) s room ∙ ap (λ (l : List ℕ). take at b ++ l) cut in
    let both : length (take at b ++ t) ≡ at + n = length-append (take at b) t ∙ ap₂ (λ (i j : ℕ). i + j) k (ap length f ∙ long) in
    let tail : at + length t ≡ at + n = ap (λ (i : ℕ). at + i) (ap length f ∙ long) in
    sym (ap (λ (l : List ℕ). (length l, l ++ drop (length l) b)) whole ∙ rw (both, tail))

-- digits stored in the part of the buffer from place `at` on
pub hex_part : (d s : List ℕ) (at n : ℕ) {l : List ℕ} → at ≤ length d → n ≡ min (2 * length s) (length (take (length d - at) (drop at d)))
    → l ≡ written (take (length d - at) (drop at d)) 0 n (hex_digit_at s) → Added d at (take at d ++ (l ++ drop (length d - at) (drop at d))) (at + n) (hex_of s)
unfolding written over_places hex_of
hex_part d s at n {l} h e p =
    let room = length d - at in
    let f = hex_digit_at s in
    let part : take room (drop at d) ≡ drop at d = take_all room (drop at d) (le_of_eq (length-drop at d)) in
    let size : n ≡ min (length (hex_of s)) room = rw (length_hex, ← length-drop at d) (rw part at e) in
    let t : take n (hex_of s) ≡ list_of n f =
    let k : 2 * length s ≡ n + (2 * length s - n) = omega (arith, size, length_hex s) in
    ap (λ (i : ℕ). take n (list_of i f)) k ∙ ap (λ (x : List ℕ). take n x) (list_of-append n (2 * length s - n) f) ∙ take_at (list_of n f) _ n (length-list_of n f) in
    let whole : take at d ++ (l ++ drop room (drop at d)) ≡ over_places d at (list_of n f) =
    rw (drop_of_length-le (drop at d) (le_of_eq (length-drop at d)), append-nil, p, part, zero-add, drop-drop, length-list_of)
    (sym (append_assoc (take at d) (list_of n f) (drop (at + n) d))) in
    record { is = ap (λ (x : List ℕ). (at + n, x)) whole ∙ added-part d (hex_of s) (list_of n f) at n h size (sym t) }

-- ---- the text of a `Text`

-- `Blank`, which the invariant of `Text` asks, is what stands behind the text
pub blank : (n k : ℕ) (b : List ℕ) → k ≤ n → length (take k b) ≡ k → drop k b ≡ replicate (n - k) 0 → Blank n k b
blank n k b h size zeros =
    (h, sym (take-append-drop k b) ∙ ap (λ (l : List ℕ). take k b ++ l) (zeros ∙ ap (λ (i : ℕ). replicate {A = ℕ} (n - i) 0) (sym size)), size)

pub behind : (n k : ℕ) (b : List ℕ) → Blank n k b → drop k b ≡ replicate (n - k) 0
behind n k b h = ap (λ (l : List ℕ). drop k l) h.1 ∙ drop_at (take k b) _ k h.2 ∙ ap (λ (i : ℕ). replicate {A = ℕ} (n - i) 0) h.2

-- what stands there once a text is added
pub text_added : (n : ℕ) {k m : ℕ} {b d x s : List ℕ} → length b ≡ n → take k b ≡ x → Added b k d m s → take m d ≡ added n x s
unfolding added
text_added n {s = s} size e p = added_taken p ∙ ap₂ (λ (i : ℕ) (l : List ℕ). take i (l ++ s)) size e

-- and behind it
after_added : (b s : List ℕ) (k : ℕ) → (k ≤ length b → k ≤ (added_at b k s).0) × (drop (added_at b k s).0 (added_at b k s).1 ≡ drop (added_at b k s).0 b)
unfolding added_at over_front
after_added b s k =
    let text = take (length b) (take k b ++ s) in
    (λ h. simp (length-take, length-append) (omega (arith, h)), drop-append_seam text (drop (length text) b))

pub blank_added : (n : ℕ) {k m : ℕ} {b d s : List ℕ} → Blank n k b → length b ≡ n → Added b k d m s → Blank n m d
blank_added n {k} {m} {b} {d} {s} h size p =
    let more : k ≤ m = rw (ap (λ (x : ℕ × List ℕ). x.0) p.is) ((after_added b s k).0 (omega (arith, h.0, size))) in
    let same : drop m d ≡ drop m b =
    ap (λ (x : ℕ × List ℕ). drop x.0 x.1) p.is ∙ (after_added b s k).1 ∙ ap (λ (x : ℕ × List ℕ). drop x.0 b) (sym p.is) in
    let most : m ≤ length d = added_inside p in
    let long : length d ≡ n = added_long p ∙ size in
    let sum : k + (m - k) ≡ m = omega (arith, more) in
    let zeros : drop m b ≡ replicate (n - m) 0 =
    ap (λ (i : ℕ). drop i b) (sym sum) ∙ sym (drop-drop (m - k) k b) ∙ ap (λ (l : List ℕ). drop (m - k) l) (behind n k b h)
    ∙ drop-replicate (m - k) (n - k) 0 ∙ ap (λ (i : ℕ). replicate {A = ℕ} i 0) (omega (arith, more)) in
    blank n m d (omega (arith, most, long)) (length-take-le m d most) (same ∙ zeros)
