-- A list cut into segments of given sizes, one after another, and joined again.
-- Assumes nothing.
use mathlib.Core.Path.{◌≡◌, refl, sym, ap₂, ◌∙◌}
use mathlib.Core.List.{List, [], ◌∷◌, ◌++◌, append_assoc}
use Prim.Native.Nat.{ℕ, ◌+◌, ◌≤◌}
use native.Mathlib.Nat.{add-zero, zero-add, add_assoc}
use native.Mathlib.Omega.{arith}
use lib.ListN.{length, drop, length-append, take-append-drop, drop_of_length-le}
use lib.Seq.{take_at, drop_at, drop-drop}
use Rattle.common.specs.Lists.{concat}
use Rattle.host.specs.Image.{cut_from}

-- the segments have the sizes
pub data Sized : List (List ℕ) → List ℕ → Type 0 where
  none : Sized [] []
  more : {a : List ℕ} {n : ℕ} {l : List (List ℕ)} {ns : List ℕ} → length a ≡ n → Sized l ns → Sized (a ∷ l) (n ∷ ns)

unfoldable pub total : List ℕ → ℕ
total [] = 0
total (n ∷ ns) = n + total ns

pub length_joined : {l : List (List ℕ)} {ns : List ℕ} → Sized l ns → length (concat l) ≡ total ns
unfolding total
length_joined none = refl
length_joined (more {a = a} {l = l} e r) = length-append a (concat l) ∙ ap₂ ◌+◌ e (length_joined r)

-- what was joined is cut into the same segments
cut_after : {l : List (List ℕ)} {ns : List ℕ} (p : List ℕ) (at : ℕ) → length p ≡ at → Sized l ns → cut_from at ns (p ++ concat l) ≡ l
unfolding cut_from
cut_after p at e none = refl
cut_after p at e (more {a = a} {n = n} {l = l} {ns = ns} k r) =
    ap₂ ◌∷◌ (rw (drop_at p (a ++ concat l) at e) (take_at a (concat l) n k))
    (rw (← append_assoc p a (concat l)) (cut_after (p ++ a) (at + n) (length-append p a ∙ ap₂ ◌+◌ e k) r))

pub cut_again : {l : List (List ℕ)} {ns : List ℕ} → Sized l ns → cut_from 0 ns (concat l) ≡ l
cut_again r = cut_after [] 0 refl r

-- what was cut is joined again
join_after : (ns b : List ℕ) (at : ℕ) → at + total ns ≡ length b → concat (cut_from at ns b) ≡ drop at b
unfolding cut_from total
join_after [] b at e = let h : length b ≤ at = omega (arith, add-zero at) in sym (drop_of_length-le b h)
join_after (n ∷ ns) b at e =
    rw (join_after ns b (at + n) (add_assoc at n (total ns) ∙ e), ← drop-drop n at b) (take-append-drop n (drop at b))

pub join_again : (ns b : List ℕ) → total ns ≡ length b → concat (cut_from 0 ns b) ≡ b
join_again ns b e = join_after ns b 0 (zero-add (total ns) ∙ e)
