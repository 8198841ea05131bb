-- Check 4 on a merged list (document 02, request 4): "A card is found cancelled on the merged list exactly when it is on at least one of the two." The list comes from crate ccl and the check
-- from session, which know nothing of each other; this is the lowest crate that has both.
-- Assumes nothing.
use mathlib.Core.Path.{◌≡◌, refl, sym, ap, subst, ◌∙◌}
use mathlib.Core.Bool.{Bool, true, false, cond, ◌||◌}
use mathlib.Core.Logic.{◌↔◌, ◌⊎◌, inl, inr, ⊎_elim}
use mathlib.Core.Option.{Option}
use mathlib.Core.List.{List}
use Prim.Native.Nat.{ℕ}
use native.Mathlib.Omega.{arith}
use lib.ListN.{length, take}
use Rattle.common.specs.Lists.{is_in}
use Rattle.common.proofs.TestLaws.{clash, or_left, or_right}
use Rattle.ccl.specs.Merge.{merged, merge_of, merged_after}
use Rattle.ccl.proofs.MergeLaws.{merged_either_way, in_merged, merge_front}
use Rattle.session.specs.Tables.{failed, passed, stands_granted, outcome_of, list_outcome, key_read}
use Rattle.session.specs.Reading.{StepOne}
use Rattle.session.specs.Finding.{finding, standing}
use Rattle.session.specs.Promise.{History, reading_of}
use Rattle.session.proofs.Invariant.{ListJudged}
use Rattle.session.proofs.PromiseLaws.{reached, promise}

-- ---- the outcome of check 4

-- on a merged list it is failed exactly where the key is on at least one of the two
pub check_merged : (key : ℕ) (a b : List ℕ) → (list_outcome key (merged a b) ≡ failed) ↔ ((is_in key a ≡ true) ⊎ (is_in key b ≡ true))
unfolding list_outcome
check_merged key a b = rw (in_merged key a b) (by (is_in key a) (is_in key b))
  where
    by : (p q : Bool) → (cond {A = ℕ} (p || q) failed passed ≡ failed) ↔ ((p ≡ true) ⊎ (q ≡ true))
    by true q = (λ e. inl refl, λ e. refl)
    by false true = (λ e. inr refl, λ e. refl)
    by false false = (λ (z : passed ≡ failed). absurd (omega arith), λ e. ⊎_elim (λ z. clash z) (λ z. clash z) e)

-- in both orders of merging
pub check_either_way : (key : ℕ) (a b : List ℕ) → list_outcome key (merged a b) ≡ list_outcome key (merged b a)
check_either_way key a b = ap (list_outcome key) (merged_either_way a b)

-- ---- for every list of calls

-- step 1 ends once
only_one : {p : Option StepOne} {x y : StepOne} → p ≡ Option.some x → p ≡ Option.some y → x ≡ y
only_one {p} {x} {y} e f = ap (the y) (sym e ∙ f)
  where
    the : StepOne → Option StepOne → StepOne
    the d Option.none = d
    the d (Option.some o) = o

-- Step 1 of a history ended with an answer that was lent the front of what merge left in its output.
module _ (h : History) (one : StepOne) (ended : (reading_of h).found.step1 ≡ Option.some one) (a b out : List ℕ) (n : ℕ) (accepted : merge_of a b (length out) ≡ (0, n))
    (lent : one.cancelled ≡ take n (merged_after a b out)) where
  -- the card's key
  abbrev key : ℕ
  key = key_read (reading_of h).opening.mode one.joined

  list_is : one.cancelled ≡ merged a b
  list_is = lent ∙ merge_front a b out n accepted

  -- the finding has check 4 failed exactly where the card's key is on at least one of the two
  pub found-merged : (outcome_of (finding (reading_of h)).outcomes 4 ≡ failed) ↔ ((is_in key a ≡ true) ⊎ (is_in key b ≡ true))
  unfolding finding
  found-merged =
      let r = reading_of h in
      let judged : outcome_of r.outcomes 4 ≡ list_outcome key one.cancelled = subst (ListJudged r.opening.mode r.outcomes) ended (reached h).holds.judged.list in
      rw (judged, list_is) (check_merged key a b)

  -- and where it stands granted, the card's key is on neither
  pub granted_on_neither : standing (finding (reading_of h)) ≡ stands_granted → (is_in key a ≡ false) × (is_in key b ≡ false)
  granted_on_neither e =
      let g = (promise h).granted.0 e in
      let same : g.one ≡ one = only_one g.read ended in
      let z : is_in key (merged a b) ≡ false = rw (same, list_is) at g.not_listed in
      let q = sym (in_merged key a b) ∙ z in
      (or_left (is_in key a) (is_in key b) q, or_right (is_in key a) (is_in key b) q)
