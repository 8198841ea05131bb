-- The bytes of a list before the first 0A: none of them is 0A, and the byte after them, where there is one, is.
-- Assumes nothing.
use mathlib.Core.Path.{◌≡◌, refl, ap, ◌∙◌}
use mathlib.Core.Bool.{Bool, true, false}
use mathlib.Core.List.{List, [], ◌∷◌, ◌++◌}
use Prim.Native.Nat.{ℕ, suc, ◌+◌, ◌≤◌, ◌<◌, zero-le, suc-le-suc}
use native.Mathlib.Nat.{not-suc-le-zero, le_of_suc-le-suc}
use native.Mathlib.Numerals.{add-one}
use borrow.Author.Tests.{eqb-true}
use lib.Dec.{eqb}
use lib.ListN.{length, get_or, take}
use lib.Seq.{take-suc}
use Rattle.common.specs.Bytes.{index_after, index_of}

-- no byte is 0A
abbrev pub NoEnd : List ℕ → Type 0
NoEnd [] = Unit
NoEnd (b ∷ s) = (eqb b 0x0A ≡ false) × NoEnd s

-- one byte more, by its test; P is of the count and of the list
counted : (P : ℕ → List ℕ → Type 0) (b : ℕ) (s : List ℕ) (t : Bool) → (t ≡ true → P 0 (b ∷ s)) → (t ≡ false → P (suc (index_of 0x0A s)) (b ∷ s))
    → P (index_after t (index_of 0x0A s)) (b ∷ s)
unfolding index_after
counted P b s true f g = f refl
counted P b s false f g = g refl

pub none_before : (s : List ℕ) → NoEnd (take (index_of 0x0A s) s)
unfolding index_of index_after
none_before [] = tt
none_before (b ∷ s) = counted (λ n l. NoEnd (take n l)) b s (eqb b 0x0A) (λ e. tt) (λ e. (e, none_before s))

pub before_within : (s : List ℕ) → index_of 0x0A s ≤ length s
unfolding index_of index_after
before_within [] = zero-le
before_within (b ∷ s) = counted (λ n l. n ≤ length l) b s (eqb b 0x0A) (λ e. zero-le) (λ e. suc-le-suc (before_within s))

end_after : (s : List ℕ) → index_of 0x0A s < length s → get_or s (index_of 0x0A s) 0 ≡ 0x0A
unfolding index_of index_after
end_after [] = λ h. absurd (not-suc-le-zero h)
end_after (b ∷ s) =
    counted (λ n l. n < length l → get_or l n 0 ≡ 0x0A) b s (eqb b 0x0A) (λ e h. eqb-true _ _ e) (λ e h. end_after s (le_of_suc-le-suc h))

-- the bytes to the first 0A with it
pub with_end : (s : List ℕ) → index_of 0x0A s < length s → take (index_of 0x0A s + 1) s ≡ take (index_of 0x0A s) s ++ (0x0A ∷ [])
with_end s h =
    ap (λ (n : ℕ). take n s) (add-one (index_of 0x0A s)) ∙ take-suc s (index_of 0x0A s) 0 h
    ∙ ap (λ (b : ℕ). take (index_of 0x0A s) s ++ (b ∷ [])) (end_after s h)
