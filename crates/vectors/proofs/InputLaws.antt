-- The lines of the input: block after block, one line after another, and bytes that are moved to the front of a buffer.
-- Assumes nothing.
use mathlib.Core.Path.{◌≡◌, refl, sym, ap, ap₂, ◌∙◌, subst}
use mathlib.Core.Bool.{Bool, true, false, cond}
use mathlib.Core.List.{List, [], ◌∷◌, ◌++◌, append-nil, append_assoc}
use Prim.Native.Nat.{ℕ, ◌+◌, ◌-◌, ◌≤◌, ◌<◌, zero-le}
use native.Mathlib.Nat.{zero-add}
use native.Mathlib.Omega.{arith}
use lib.Dec.{eqb}
use lib.ListN.{length, get_or, take, drop, length-drop, take-append-drop}
use lib.Seq.{drop_at, take-add, take_all, get_or-drop, get_or-take, length-take-le}
use Rattle.std.specs.List.{copy_within}
use Rattle.std.proofs.Math.Seq.{paste}
use Rattle.std.proofs.lemmas.List.Edits.{take-paste, drop-paste}
use Rattle.common.specs.Lists.{list_of, written, over_front, concat}
use Rattle.common.proofs.ListsLaws.{length-list_of, list_of_is, front_written, front_after}
use Rattle.common.specs.Bytes.{index_of}
use Rattle.common.proofs.PlaceLaws.{NoEnd, none_before, with_end}
use Rattle.vectors.specs.FascnText.{codes_text}
use Rattle.vectors.specs.Line.{line_text}
use Rattle.vectors.specs.Input.{lines_text, rest_of, last_line_text, input_text, blocks_text, moved}

-- ---- block after block

pub lines_append : (h x y : List ℕ) → lines_text h (x ++ y) ≡ lines_text h x ++ lines_text (rest_of h x) y
unfolding lines_text rest_of
lines_append h [] y = refl
lines_append h (b ∷ x) y = by (eqb b 0x0A) (lines_append [] x y) (lines_append (h ++ (b ∷ [])) x y)
  where
    by : (t : Bool) → lines_text [] (x ++ y) ≡ lines_text [] x ++ lines_text (rest_of [] x) y
        → lines_text (h ++ (b ∷ [])) (x ++ y) ≡ lines_text (h ++ (b ∷ [])) x ++ lines_text (rest_of (h ++ (b ∷ [])) x) y
        → cond t (line_text h ++ lines_text [] (x ++ y)) (lines_text (h ++ (b ∷ [])) (x ++ y))
        ≡ cond t (line_text h ++ lines_text [] x) (lines_text (h ++ (b ∷ [])) x) ++ lines_text (cond t (rest_of [] x) (rest_of (h ++ (b ∷ [])) x)) y
    by true p q = ap (λ (l : List ℕ). line_text h ++ l) p ∙ sym (append_assoc (line_text h) (lines_text [] x) (lines_text (rest_of [] x) y))
    by false p q = q

pub rest_append : (h x y : List ℕ) → rest_of h (x ++ y) ≡ rest_of (rest_of h x) y
unfolding rest_of
rest_append h [] y = refl
rest_append h (b ∷ x) y = by (eqb b 0x0A) (rest_append [] x y) (rest_append (h ++ (b ∷ [])) x y)
  where
    by : (t : Bool) → rest_of [] (x ++ y) ≡ rest_of (rest_of [] x) y → rest_of (h ++ (b ∷ [])) (x ++ y) ≡ rest_of (rest_of (h ++ (b ∷ [])) x) y
        → cond t (rest_of [] (x ++ y)) (rest_of (h ++ (b ∷ [])) (x ++ y)) ≡ rest_of (cond t (rest_of [] x) (rest_of (h ++ (b ∷ [])) x)) y
    by true p q = p
    by false p q = q

-- ---- a line, and bytes that end none

line_one : (h l : List ℕ) → NoEnd l → (lines_text h (l ++ (0x0A ∷ [])) ≡ line_text (h ++ l)) × (rest_of h (l ++ (0x0A ∷ [])) ≡ [])
unfolding lines_text rest_of
line_one h [] n = (append-nil (line_text h) ∙ ap line_text (sym (append-nil h)), refl)
line_one h (b ∷ l) n =
    let i = line_one (h ++ (b ∷ [])) l n.1 in
    (rw n.0 (i.0 ∙ ap line_text (append_assoc h (b ∷ []) l)), rw n.0 i.1)

line_none : (h l : List ℕ) → NoEnd l → (lines_text h l ≡ []) × (rest_of h l ≡ h ++ l)
unfolding lines_text rest_of
line_none h [] n = (refl, sym (append-nil h))
line_none h (b ∷ l) n =
    let i = line_none (h ++ (b ∷ [])) l n.1 in
    (rw n.0 i.0, rw n.0 (i.1 ∙ append_assoc h (b ∷ []) l))

-- ---- in whatever blocks the input arrives

no_end_more : (g : List ℕ) (b : ℕ) → NoEnd g → eqb b 0x0A ≡ false → NoEnd (g ++ (b ∷ []))
no_end_more [] b n e = (e, tt)
no_end_more (a ∷ g) b n e = (n.0, no_end_more g b n.1 e)

-- what is held ends no line
held_none : (g x : List ℕ) → NoEnd g → NoEnd (rest_of g x)
unfolding rest_of
held_none g [] n = n
held_none g (b ∷ x) n = by (eqb b 0x0A) refl (held_none [] x tt) (λ e. held_none (g ++ (b ∷ [])) x (no_end_more g b n e))
  where
    by : (t : Bool) → eqb b 0x0A ≡ t → NoEnd (rest_of [] x) → (eqb b 0x0A ≡ false → NoEnd (rest_of (g ++ (b ∷ [])) x))
        → NoEnd (cond t (rest_of [] x) (rest_of (g ++ (b ∷ [])) x))
    by true e p q = p
    by false e p q = q e

-- a block that is read after the bytes that the one before left
again : (x y : List ℕ) → (lines_text [] (x ++ y) ≡ lines_text [] x ++ lines_text [] (rest_of [] x ++ y)) × (rest_of [] (x ++ y) ≡ rest_of [] (rest_of [] x ++ y))
again x y =
    let h = rest_of [] x in
    let none = line_none [] h (held_none [] x tt) in
    let lines : lines_text [] (h ++ y) ≡ lines_text h y =
    lines_append [] h y ∙ ap₂ (λ (a b : List ℕ). a ++ lines_text b y) none.0 none.1 in
    let rest : rest_of [] (h ++ y) ≡ rest_of h y = rest_append [] h y ∙ ap (λ (a : List ℕ). rest_of a y) none.1 in
    (lines_append [] x y ∙ ap (λ (l : List ℕ). lines_text [] x ++ l) (sym lines), rest_append [] x y ∙ sym rest)

blocks_are : (h : List ℕ) (bs : List (List ℕ)) → NoEnd h → blocks_text h bs ≡ lines_text [] (h ++ concat bs) ++ last_line_text (rest_of [] (h ++ concat bs))
unfolding blocks_text
blocks_are h [] n =
    let none = line_none [] h n in
    sym (rw (append-nil h) (ap₂ (λ (a b : List ℕ). a ++ last_line_text b) none.0 none.1))
blocks_are h (b ∷ bs) n =
    let x = h ++ b in
    let y = concat bs in
    let two = again x y in
    ap (λ (l : List ℕ). lines_text [] x ++ l) (blocks_are (rest_of [] x) bs (held_none [] x tt))
    ∙ sym (append_assoc (lines_text [] x) (lines_text [] (rest_of [] x ++ y)) (last_line_text (rest_of [] (rest_of [] x ++ y))))
    ∙ ap₂ (λ (a c : List ℕ). a ++ last_line_text c) (sym two.0) (sym two.1)
    ∙ ap (λ (l : List ℕ). lines_text [] l ++ last_line_text (rest_of [] l)) (append_assoc h b y)

-- all that is printed is the text of the whole input
pub in_blocks : (bs : List (List ℕ)) → codes_text ++ blocks_text [] bs ≡ input_text (concat bs)
unfolding input_text
in_blocks bs =
    ap (λ (l : List ℕ). codes_text ++ l) (blocks_are [] bs tt) ∙ sym (append_assoc codes_text (lines_text [] (concat bs)) (last_line_text (rest_of [] (concat bs))))

-- ---- the loop over a block

-- one line more
pub lines_more : (s : List ℕ) (from end : ℕ) → end ≡ from + index_of 0x0A (drop from s) → end < length s → rest_of [] (take from s) ≡ []
    → (lines_text [] (take from s) ++ line_text (take (end - from) (drop from s)) ≡ lines_text [] (take (end + 1) s)) × (rest_of [] (take (end + 1) s) ≡ [])
lines_more s from end e h r =
    let t = drop from s in
    let k = index_of 0x0A t in
    let x = take from s in
    let l = take k t in
    let inside : k < length t = rw length-drop (omega (arith, e, h)) in
    let size : end + 1 ≡ from + (k + 1) = omega (arith, e) in
    let same : end - from ≡ k = omega (arith, e) in
    let whole : take (end + 1) s ≡ x ++ (l ++ (0x0A ∷ [])) =
    ap (λ (i : ℕ). take i s) size ∙ take-add from (k + 1) s ∙ ap (λ (y : List ℕ). x ++ y) (with_end t inside) in
    let one = line_one [] l (none_before t) in (
      sym
          (ap (lines_text []) whole ∙ lines_append [] x (l ++ (0x0A ∷ [])) ∙ ap (λ (y : List ℕ). lines_text [] x ++ lines_text y (l ++ (0x0A ∷ []))) r
          ∙ ap (λ (y : List ℕ). lines_text [] x ++ y) (one.0 ∙ ap (λ (i : ℕ). line_text (take i t)) (sym same))),
      ap (rest_of []) whole ∙ rest_append [] x (l ++ (0x0A ∷ [])) ∙ ap (λ (y : List ℕ). rest_of y (l ++ (0x0A ∷ []))) r ∙ one.1,
    )

-- no line more
pub lines_all : (s : List ℕ) (from end : ℕ) → end ≡ from + index_of 0x0A (drop from s) → length s ≤ end → from ≤ length s → rest_of [] (take from s) ≡ []
    → (lines_text [] (take from s) ≡ lines_text [] s) × (rest_of [] s ≡ drop from s)
lines_all s from end e h f r =
    let t = drop from s in
    let x = take from s in
    let all : take (index_of 0x0A t) t ≡ t = take_all (index_of 0x0A t) t (rw length-drop (omega (arith, e, h))) in
    let none = line_none [] t (subst NoEnd all (none_before t)) in
    let whole : s ≡ x ++ t = sym (take-append-drop from s) in (
      sym
          (ap (lines_text []) whole ∙ lines_append [] x t ∙ ap (λ (y : List ℕ). lines_text [] x ++ lines_text y t) r
          ∙ ap (λ (y : List ℕ). lines_text [] x ++ y) none.0 ∙ append-nil (lines_text [] x)),
      ap (rest_of []) whole ∙ rest_append [] x t ∙ ap (λ (y : List ℕ). rest_of y t) r ∙ none.1,
    )

-- ---- bytes moved to the front

-- a byte past those that are written anew is as it was
pub written_past : (b : List ℕ) (i k : ℕ) (f : ℕ → ℕ) → get_or (written b 0 i f) (k + i) 0 ≡ get_or b (k + i) 0
written_past b i k f =
    ap (λ (l : List ℕ). get_or l (k + i) 0) (front_written b (list_of i f) i f refl) ∙ front_after (list_of i f) b (k + i) (omega (arith, length-list_of i f))

pub moved_is : (b : List ℕ) (from end : ℕ) → from ≤ end → end ≤ length b → written b 0 (end - from) (λ j. get_or b (from + j) 0) ≡ moved b from end
unfolding moved
moved_is b from end h g =
    let n = end - from in
    let p = take n (drop from b) in
    let size : length p ≡ n = length-take-le n (drop from b) (rw length-drop (omega (arith, h, g))) in
    front_written b p n (λ j. get_or b (from + j) 0) (list_of_is n (λ j. get_or b (from + j) 0) p size (λ i l. sym (get_or-take n (drop from b) i 0 l ∙ get_or-drop from b i 0)))

paste_front : (d s : List ℕ) (n : ℕ) → n ≤ length s → n ≤ length d → paste d 0 s n ≡ over_front (take n s) d
unfolding over_front
paste_front d s n h g =
    let at_n : 0 + n ≡ n = zero-add n in
    let t : take n (paste d 0 s n) ≡ take n s = ap (λ (k : ℕ). take k (paste d 0 s n)) (sym at_n) ∙ take-paste d 0 s n zero-le h in
    let u : drop n (paste d 0 s n) ≡ drop n d =
    ap (λ (k : ℕ). drop k (paste d 0 s n)) (sym at_n) ∙ drop-paste d 0 s n zero-le h ∙ ap (λ (k : ℕ). drop k d) at_n in
    sym (take-append-drop n (paste d 0 s n)) ∙ ap₂ (λ (x y : List ℕ). x ++ y) t (u ∙ ap (λ (k : ℕ). drop k d) (sym (length-take-le n s h)))

-- std's own move within a list is the same
pub moved_within : (b : List ℕ) (from end : ℕ) → from ≤ end → end ≤ length b → copy_within b from end 0 ≡ moved b from end
unfolding moved
moved_within b from end h g = paste_front b (drop from b) (end - from) (rw length-drop (omega (arith, h, g))) (omega (arith, g))

-- what is moved is what the block leaves
pub kept_is : (b : List ℕ) (used end : ℕ) → end ≤ length b → used ≤ end → rest_of [] (take end b) ≡ drop used (take end b)
    → (copy_within b used end 0 ≡ over_front (rest_of [] (take end b)) b) × (end - used ≡ length (rest_of [] (take end b)))
unfolding moved
kept_is b used end q r f =
    let n = end - used in
    let part = take n (drop used b) in
    let room : n ≤ length (drop used b) = rw length-drop (omega (arith, r, q)) in
    let size : length part ≡ n = length-take-le n (drop used b) room in
    let sum : end ≡ used + n = omega (arith, r) in
    let rest : drop used (take end b) ≡ part =
    ap (λ (i : ℕ). drop used (take i b)) sum ∙ ap (λ (l : List ℕ). drop used l) (take-add used n b)
    ∙ drop_at (take used b) part used (length-take-le used b (omega (arith, r, q))) in
    (moved_within b used end r q ∙ ap (λ (l : List ℕ). over_front l b) (sym (f ∙ rest)), sym size ∙ ap length (sym (f ∙ rest)))
