-- The merge of two lists of keys (document 02, request 4): "strictly ascending, holding a key exactly when either input
-- has it. The result carries its count of keys, and places past it stay." "25 where either input isn't strictly
-- ascending; 26 where the output is shorter than the merged count, tested next. The output is untouched in both."
-- Assumes nothing.
use Rattle.std.specs.Prelude.{◌≡◌, refl, Bool, false, cond, not, ◌&&◌, List, [], ◌∷◌, ℕ, suc, ◌-◌, eqb, ltb, length, get_or, Result}
use Rattle.common.specs.Lists.{all, over_front}
use Rattle.common.specs.Refusal.{refusal_of, answer_in}
use Rattle.ccl.specs.declared.merge.MergeError.{MergeError}
use Rattle.ccl.specs.declared.merge.MergeError.TheVariants as merge-errors

-- Each key is below the one after it. A list of one key ascends, and so does the empty list.
unfoldable pub ascending : List ℕ → Bool
ascending l = all (length l - 1) (λ i. ltb (get_or l i 0) (get_or l (suc i) 0))

-- The lower of the two first keys comes next; where they are the same key, it comes once. Where one list is empty, the
-- other follows whole.
unfoldable pub merged : List ℕ → List ℕ → List ℕ
merged [] b = b
merged (x ∷ a) [] = x ∷ a
merged (x ∷ a) (y ∷ b) = cond (ltb x y) (x ∷ merged a (y ∷ b)) (cond (ltb y x) (y ∷ merged (x ∷ a) b) (x ∷ merged a b))

-- "tested next": the two conditions stand in this order
unfoldable pub merge_refusal : List ℕ → List ℕ → ℕ → ℕ
merge_refusal a b room = refusal_of ((25, not (ascending a && ascending b)) ∷ (26, ltb room (length (merged a b))) ∷ [])

-- Beside 0 the count of keys, beside 25 and 26 nothing (0).
unfoldable pub merge_of : List ℕ → List ℕ → ℕ → ℕ × ℕ
merge_of a b room = let k = merge_refusal a b room in (k, cond (eqb k 0) (length (merged a b)) 0)

-- What the output holds after the call: the merged list over its front, and all as it was where the call is refused.
unfoldable pub merged_after : List ℕ → List ℕ → List ℕ → List ℕ
merged_after a b out = cond (eqb (merge_refusal a b (length out)) 0) (over_front (merged a b) out) out

-- The answer of the code: document 02's number of each error, and the count of keys beside it, or 0.
abbrev pub merge_number : MergeError → ℕ
merge_number merge-errors.NotAscending = 25
merge_number merge-errors.TooFewPlaces = 26

pub merge_never_zero : (e : MergeError) → eqb (merge_number e) 0 ≡ false
merge_never_zero merge-errors.NotAscending = refl
merge_never_zero merge-errors.TooFewPlaces = refl

abbrev pub merge_answer : Result ℕ MergeError → ℕ × ℕ
merge_answer r = answer_in merge_number 0 r
