-- The TLVs of a list, one step at a time; whole TLVs to a depth; and what the walk over them finds.
-- Assumes nothing.
use mathlib.Core.Path.{◌≡◌, refl, sym, ap, ◌∙◌}
use mathlib.Core.Bool.{Bool, true, false, cond, not, ◌&&◌, ◌||◌, and-true, and-false}
use mathlib.Core.List.{List, [], ◌∷◌}
use Prim.Native.Nat.{ℕ, zero, suc, ◌+◌, ◌-◌, ◌≤◌, ◌<◌}
use native.Mathlib.Omega.{arith}
use borrow.Author.Tests.{eq-eqb, ne_eqb}
use lib.Dec.{eqb, leb}
use lib.ListN.{length, take, drop, length-drop}
use Rattle.card.specs.Tlv.{header_of, only_from, only_of, header}
use Rattle.card.specs.Template.{aid_tag, held_least, held_most, Tlv, tlv, broken, tlvs_from, tlvs_of, every, whole_to, lengths_of, just_one, good_value, good_from, template_of}
use Rattle.card.specs.TemplateCode.{one_more_aid, noted, noted_all, walked}
use Rattle.card.specs.declared.tlv.Header.{Header}
use Rattle.std.specs.Prelude.{Option, Some, None}
use Rattle.card.specs.declared.template.Aids.{Aids}
use Rattle.card.specs.declared.template.Aids.TheVariants.{Absent, JustOne, Others}
use Rattle.card.proofs.TlvLaws.{header_empty, header_inside, header_start, value_length}

-- ---- the TLVs of a list

-- no bytes, no TLVs
from_none : (n : ℕ) (s : List ℕ) → length s ≡ 0 → tlvs_from n s ≡ []
unfolding tlvs_from
from_none zero s e = refl
from_none (suc n) s e = rw e

pub tlvs_end : (s : List ℕ) → length s ≡ 0 → tlvs_of s ≡ []
unfolding tlvs_of
tlvs_end s e = from_none (length s) s e

-- bytes that are no TLV
from_broken : (n : ℕ) (s : List ℕ) → 0 < length s → None ≡ header_of s → tlvs_from (suc n) s ≡ broken ∷ []
unfolding tlvs_from
from_broken n s h e = let k : length s ≡ 0 → ⊥ = λ z. omega arith in rw (ne_eqb _ _ k, ← e)

-- a TLV, and what follows it
from_whole : (n : ℕ) (s : List ℕ) {tag start len : ℕ} {nested : Bool} → Some (header tag nested start len) ≡ header_of s
    → tlvs_from (suc n) s ≡ tlv tag nested (take len (drop start s)) ∷ tlvs_from n (drop (start + len) s)
unfolding tlvs_from
from_whole n s e = let k : length s ≡ 0 → ⊥ = λ z. omega (arith, header_inside s e, header_start s e) in rw (ne_eqb _ _ k, ← e)

-- what is left is shorter
left_shorter : (s : List ℕ) {tag start len : ℕ} {nested : Bool} → Some (header tag nested start len) ≡ header_of s → length (drop (start + len) s) < length s
left_shorter s {start = start} {len} e = omega (arith, length-drop (start + len) s, header_inside s e, header_start s e)

-- two counts of steps agree where they agree on what is left
step : (h : Option Header) (n m : ℕ) (s : List ℕ) → h ≡ header_of s → ((s' : List ℕ) → length s' < length s → tlvs_from n s' ≡ tlvs_from m s')
    → tlvs_from (suc n) s ≡ tlvs_from (suc m) s
unfolding tlvs_from
step None n m s e same = rw (← e)
step (Some h) n m s e same = rw (← e, same (drop (h.start + h.len) s) (left_shorter s e))

-- as many steps as there are bytes are enough
steps : (n m : ℕ) (s : List ℕ) → length s ≤ n → length s ≤ m → tlvs_from n s ≡ tlvs_from m s
steps zero m s a b = let e : length s ≡ 0 = omega arith in from_none zero s e ∙ sym (from_none m s e)
steps (suc n) zero s a b = let e : length s ≡ 0 = omega arith in from_none (suc n) s e ∙ sym (from_none zero s e)
steps (suc n) (suc m) s a b = step (header_of s) n m s refl (λ s' l. steps n m s' (omega arith) (omega arith))

-- a count that is not 0
one_more : (n : ℕ) → 0 < n → n ≡ suc (n - 1)
one_more n h = omega arith

-- the same of all steps: bytes that are no TLV
pub tlvs_broken : (s : List ℕ) → 0 < length s → None ≡ header_of s → tlvs_of s ≡ broken ∷ []
unfolding tlvs_of
tlvs_broken s h e = ap (λ (n : ℕ). tlvs_from n s) (one_more (length s) h) ∙ from_broken (length s - 1) s h e

-- and a TLV, and what follows it
pub tlvs_whole : (s : List ℕ) {tag start len : ℕ} {nested : Bool} → Some (header tag nested start len) ≡ header_of s
    → tlvs_of s ≡ tlv tag nested (take len (drop start s)) ∷ tlvs_of (drop (start + len) s)
unfolding tlvs_of
tlvs_whole s {tag} {start} {len} {nested} e =
    ap (λ (n : ℕ). tlvs_from n s) (one_more (length s) (omega (arith, left_shorter s e))) ∙ from_whole (length s - 1) s e
    ∙ ap (λ (ts : List Tlv). tlv tag nested (take len (drop start s)) ∷ ts)
    (steps (length s - 1) (length (drop (start + len) s)) (drop (start + len) s) (omega (arith, left_shorter s e)) (omega arith))

-- ---- whole TLVs to a depth

-- no bytes are whole TLVs to any depth
pub whole_end : (d : ℕ) (s : List ℕ) → length s ≡ 0 → whole_to d s ≡ true
unfolding whole_to every
whole_end zero s e = eq-eqb _ _ e
whole_end (suc d) s e = rw (tlvs_end s e)

-- bytes that are no TLV are not
pub whole_broken : (d : ℕ) (s : List ℕ) → 0 < length s → None ≡ header_of s → whole_to (suc d) s ≡ false
unfolding whole_to every
whole_broken d s h e = rw (tlvs_broken s h e)

-- a TLV, and what follows it
pub whole_step : (d : ℕ) (s : List ℕ) {tag start len : ℕ} {nested : Bool} → Some (header tag nested start len) ≡ header_of s
    → whole_to (suc d) s ≡ (not nested || whole_to d (take len (drop start s))) && whole_to (suc d) (drop (start + len) s)
unfolding whole_to every
whole_step d s e = rw (tlvs_whole s e)

-- the same at a depth that is not 0
whole_next : (d : ℕ) (s : List ℕ) {tag start len : ℕ} {nested : Bool} → (d ≡ 0 → ⊥) → Some (header tag nested start len) ≡ header_of s
    → whole_to d s ≡ (not nested || whole_to (d - 1) (take len (drop start s))) && whole_to d (drop (start + len) s)
whole_next zero s m e = absurd (m refl)
whole_next (suc d) s m e = let k : suc d - 1 ≡ d = omega arith in rw k (whole_step d s e)

-- ---- just one 4F

-- a test that picks between two of the same
stays : {A : Type 0} (k : Bool) (x : A) → cond k x x ≡ x
stays true x = refl
stays false x = refl

-- the 4Fs are just one
abbrev pub is_one : Aids → Bool
is_one Absent = false
is_one JustOne = true
is_one Others = false

-- after others than one good 4F nothing changes
noted_others : (ts : List Tlv) → noted_all Others ts ≡ Others
unfolding noted_all noted one_more_aid
noted_others [] = refl
noted_others (broken ∷ ts) = noted_others ts
noted_others (tlv tag nested value ∷ ts) = rw (stays (eqb tag aid_tag) Others) (noted_others ts)

-- no length
abbrev none : List ℕ → Bool
none [] = true
none (n ∷ ns) = false

-- after one, none may follow
noted_one : (ts : List Tlv) → is_one (noted_all JustOne ts) ≡ none (lengths_of aid_tag ts)
unfolding noted_all noted one_more_aid lengths_of
noted_one [] = refl
noted_one (broken ∷ ts) = noted_one ts
noted_one (tlv tag nested value ∷ ts) = by_tag (eqb tag aid_tag) (noted_one ts)
  where
    by_tag : (k : Bool) → is_one (noted_all JustOne ts) ≡ none (lengths_of aid_tag ts)
        → is_one (noted_all (cond k Others JustOne) ts) ≡ none (cond k (length value ∷ lengths_of aid_tag ts) (lengths_of aid_tag ts))
    by_tag true p = rw (noted_others ts)
    by_tag false p = p

-- just one: the first is good, and none follows
just_cons : (n : ℕ) (ns : List ℕ) → just_one (n ∷ ns) ≡ (leb held_least n && leb n held_most) && none ns
unfolding just_one
just_cons n [] = sym (and-true (leb held_least n && leb n held_most))
just_cons n (m ∷ ns) = sym (and-false (leb held_least n && leb n held_most))

-- from the start: what the code notes is just one exactly where there is just one, of 1 to 16 bytes
pub noted_none : (ts : List Tlv) → is_one (noted_all Absent ts) ≡ just_one (lengths_of aid_tag ts)
unfolding noted_all noted one_more_aid lengths_of just_one
noted_none [] = refl
noted_none (broken ∷ ts) = noted_none ts
noted_none (tlv tag nested value ∷ ts) = by_tag (eqb tag aid_tag) (noted_none ts)
  where
    by_length : (k : Bool) → is_one (noted_all (cond k JustOne Others) ts) ≡ k && none (lengths_of aid_tag ts)
    by_length true = noted_one ts
    by_length false = rw (noted_others ts)

    by_tag : (k : Bool) → is_one (noted_all Absent ts) ≡ just_one (lengths_of aid_tag ts)
        → is_one (noted_all (cond k (cond (leb held_least (length value) && leb (length value) held_most) JustOne Others) Absent) ts) ≡ just_one (cond k (length value ∷ lengths_of aid_tag ts) (lengths_of aid_tag ts))
    by_tag true p = by_length (leb held_least (length value) && leb (length value) held_most) ∙ sym (just_cons (length value) (lengths_of aid_tag ts))
    by_tag false p = p

-- ---- the walk

-- what is not whole TLVs
walked_broken : (d : ℕ) (n : Aids) (s : List ℕ) → whole_to d s ≡ false → walked d n s ≡ None
unfolding walked
walked_broken d n s e = rw e

-- the bytes that are left, in the code's terms
module _ (d : ℕ) (n : Aids) (s : List ℕ) where
  -- none
  pub walk_end : length s ≡ 0 → walked d n s ≡ Some n
  unfolding walked noted_all
  walk_end e = rw (whole_end d s e, tlvs_end s e)

  -- a TLV below the last level
  pub walk_deep : 0 < length s → d ≡ 0 → walked d n s ≡ None
  unfolding whole_to
  walk_deep h e =
      let k : length s ≡ 0 → ⊥ = λ z. omega arith in
      walked_broken d n s (rw e (ne_eqb _ _ k))

  module _ (h : 0 < length s) (m : d ≡ 0 → ⊥) where
    -- bytes that are no TLV
    pub walk_bad : None ≡ header_of s → walked d n s ≡ None
    walk_bad e = walked_broken d n s (rw (one_more d (omega (arith, m))) (whole_broken (d - 1) s h e))

    module _ {tag start len : ℕ} {nested : Bool} (e : Some (header tag nested start len) ≡ header_of s) where
      -- it and what follows it are whole TLVs; the 4Fs noted
      whole_is : whole_to d s ≡ (not nested || whole_to (d - 1) (take len (drop start s))) && whole_to d (drop (start + len) s)
      whole_is = whole_next d s m e

      noted_is : noted_all n (tlvs_of s) ≡ noted_all (noted n tag len) (tlvs_of (drop (start + len) s))
      unfolding noted_all
      noted_is =
          ap (noted_all n) (tlvs_whole s e) ∙ ap (λ (x : ℕ). noted_all (noted n tag x) (tlvs_of (drop (start + len) s))) (value_length s e)

      -- it is plain, or its value is whole TLVs to the levels left
      pub walk_past : (not nested || whole_to (d - 1) (take len (drop start s))) ≡ true
          → walked d n s ≡ walked d (noted n tag len) (drop (start + len) s)
      unfolding walked
      walk_past k = rw (whole_is, k, noted_is)

      -- its value is not
      pub walk_broken : (not nested || whole_to (d - 1) (take len (drop start s))) ≡ false → walked d n s ≡ None
      walk_broken k = walked_broken d n s (rw (whole_is, k))

-- what the walk over a nested value says of it
module _ (d : ℕ) (v : List ℕ) {nested : Bool} where
  -- it need not be walked
  pub plain_passes : nested ≡ false → (not nested || whole_to d v) ≡ true
  plain_passes k = rw k

  -- it is whole
  pub nested_passes : {w : Option Aids} {aids : Aids} → nested ≡ true → w ≡ walked d Absent v → w ≡ Some aids → (not nested || whole_to d v) ≡ true
  unfolding walked
  nested_passes {w} {aids} k e p = rw k (by_whole (whole_to d v) (sym p ∙ e))
    where
      by_whole : (x : Bool) → Some aids ≡ cond x (Some (noted_all Absent (tlvs_of v))) None → x ≡ true
      by_whole true q = refl
      by_whole false q = let h : ◌≡◌ {A = ℕ} 0 1 = cc in absurd (omega arith)

  -- it is not
  pub nested_fails : {w : Option Aids} → nested ≡ true → w ≡ walked d Absent v → w ≡ None → (not nested || whole_to d v) ≡ false
  unfolding walked
  nested_fails {w} k e p = rw k (by_whole (whole_to d v) (sym p ∙ e))
    where
      by_whole : (x : Bool) → None ≡ cond x (Some (noted_all Absent (tlvs_of v))) None → x ≡ false
      by_whole true q = let h : ◌≡◌ {A = ℕ} 0 1 = cc in absurd (omega arith)
      by_whole false q = refl

-- the walk found just one 4F
abbrev pub found_one : Option Aids → Bool
found_one None = false
found_one (Some n) = is_one n

-- that decides of the value of 61
pub good_is : (v : List ℕ) {w : Option Aids} → w ≡ walked 3 Absent v → good_value v ≡ found_one w
unfolding good_value walked
good_is v e = rw e (by_whole (whole_to 3 v))
  where
    by_whole : (k : Bool) → k && just_one (lengths_of aid_tag (tlvs_of v)) ≡ found_one (cond k (Some (noted_all Absent (tlvs_of v))) None)
    by_whole true = sym (noted_none (tlvs_of v))
    by_whole false = refl

-- ---- a good template

-- a good template is not empty
pub template_not_empty : (s : List ℕ) → template_of s ≡ 0 → 0 < length s
unfolding template_of good_from only_of only_from
template_not_empty [] e = let h : ◌≡◌ {A = ℕ} 19 0 = rw header_empty at e in absurd (omega arith)
template_not_empty (x ∷ s) e = omega arith
