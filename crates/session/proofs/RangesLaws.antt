-- What a session in range tells of its values, one law for each range that a proof cites.
-- Assumes nothing.
use mathlib.Core.Path.{◌≡◌}
use mathlib.Core.Bool.{Bool, true, false, cond, ◌&&◌, ◌||◌}
use mathlib.Core.List.{List, [], ◌∷◌}
use Prim.Native.Nat.{ℕ, suc, ◌+◌, ◌≤◌, ◌<◌}
use native.Mathlib.Omega.{arith}
use borrow.Author.Tests.{leb-true}
use lib.Dec.{eqb, leb}
use lib.ListN.{length, get_or}
use Rattle.card.specs.Date.{real_date}
use Rattle.card.specs.Command.{aid_least, aid_most, good_aid}
use Rattle.card.specs.Object.{empty, most_fields, row_tag, rows_of, part_in}
use Rattle.card.specs.declared.object.Kind.{Kind}
use Rattle.card.specs.declared.object.Kind.TheVariants.{Signed, Unsigned, Fingers, Picture}
use Rattle.card.specs.declared.object.Part.{Part}
use Rattle.common.proofs.ListsLaws.{all_at}
use Rattle.session.specs.Tables.{since, mode_in_range, base_of, capacity, kind_at, object_size}
use Rattle.session.specs.Ranges.{opening_in_range, step_in_range, cause_in_range, outstanding_in_range, progress_in_range, outcomes_in_range, part_inside, parts_inside, card_in_range, in_range, ranged_values, values_in_range}
use Rattle.session.specs.Operation.{part_for}
use Rattle.session.specs.declared.state.Session.{Session}
use Rattle.common.proofs.TestLaws.{and_parts}
use Rattle.session.proofs.FigureLaws.{base_inside, base_by}

-- ---- the groups

-- opening, progress, outcomes and card
pub groups_in_range : (s : Session) → in_range s ≡ true
    → let v = ranged_values s in
    ((opening_in_range v.mode v.date v.aid_len ≡ true) × (progress_in_range v.mode v.step v.filled v.cause v.outstanding ≡ true))
    × ((outcomes_in_range v.outcomes ≡ true) × (card_in_range v.expiry v.inside ≡ true))
unfolding in_range values_in_range
groups_in_range s e = let h = and_parts _ _ e in (and_parts _ _ h.0, and_parts _ _ h.1)

-- ---- single values

pub aid_in_range : (s : Session) → in_range s ≡ true → (aid_least ≤ s.opening.aid_len) × (s.opening.aid_len ≤ aid_most)
unfolding ranged_values
aid_in_range s e =
    let n = s.opening.aid_len in
    let fits : good_aid n ≡ true = (and_parts (mode_in_range since s.opening.mode && real_date s.opening.date) _ (groups_in_range s e).0.0).1 in
    let h = and_parts (leb aid_least n) (leb n aid_most) fits in
    (leb-true aid_least n h.0, leb-true n aid_most h.1)

pub filled_in_range : (s : Session) → in_range s ≡ true → s.progress.filled ≤ capacity s.opening.mode s.progress.step
unfolding ranged_values
filled_in_range s e =
    let p = s.progress in
    let most = capacity s.opening.mode p.step in
    let step = step_in_range s.opening.mode p.step in
    let full : step && leb p.filled most ≡ true = (and_parts (step && leb p.filled most) (cause_in_range p.cause && outstanding_in_range p.outstanding p.step p.cause) (groups_in_range s e).0.1).0 in
    leb-true p.filled most (and_parts step (leb p.filled most) full).1

-- the parts of step 1 and that of step 2
pub parts_in_range : (s : Session) → in_range s ≡ true → (parts_inside (base_of 1) s.card.step1 ≡ true) × (part_inside (base_of 2) s.card.step2 ≡ true)
unfolding ranged_values
parts_in_range s e =
    let c = s.card in
    and_parts (parts_inside (base_of 1) c.step1) (part_inside (base_of 2) c.step2) (and_parts (eqb c.expiry 0 || real_date c.expiry) _ (groups_in_range s e).1.1).1

-- ---- parts

-- a part that passes its test ends inside the object buffer
part-ends : (base : ℕ) (p : Part) → part_inside base p ≡ true → base + (p.start + p.len) ≤ object_size
part-ends base p e = omega (arith, leb-true (base + p.start + p.len) object_size e)

-- and so does the part of the field with a tag, where as many parts pass as there are rows
picked_ends : (base : ℕ) (rs : List _) (ps : List Part) (tag : ℕ) → base ≤ object_size → ((i : ℕ) → i < length rs → part_inside base (get_or ps i empty) ≡ true)
    → let p = part_in rs ps tag in base + (p.start + p.len) ≤ object_size
unfolding part_in
picked_ends base [] ps tag h t = omega arith
picked_ends base (r ∷ rs) [] tag h t = omega arith
picked_ends base (r ∷ rs) (p ∷ ps) tag h t = by_tag (eqb (row_tag r) tag) (picked_ends base rs ps tag h (λ i l. t (suc i) (omega (arith, l))))
  where
    by_tag : (k : Bool) → let q = part_in rs ps tag in base + (q.start + q.len) ≤ object_size → let w = cond k p (part_in rs ps tag) in base + (w.start + w.len) ≤ object_size
    by_tag true later = part-ends base p (t 0 (omega arith))
    by_tag false later = later

-- an object has as many rows as it has fields at most
rows_most : (k : Kind) → length (rows_of k) ≤ most_fields
unfolding rows_of
rows_most Signed = omega arith
rows_most Unsigned = omega arith
rows_most Fingers = omega arith
rows_most Picture = omega arith

parts_end : (base : ℕ) (k : Kind) (ps : List Part) (tag : ℕ) → base ≤ object_size → parts_inside base ps ≡ true
    → let p = part_in (rows_of k) ps tag in base + (p.start + p.len) ≤ object_size
unfolding parts_inside
parts_end base k ps tag h e =
    picked_ends base (rows_of k) ps tag h (λ i l. all_at (λ (j : ℕ). part_inside base (get_or ps j empty)) most_fields e i (omega (arith, l, rows_most k)))

-- the field with a tag of a step's object lies inside the object buffer
pub part-in_range : (s : Session) (step tag : ℕ) → in_range s ≡ true
    → base_of step + ((part_for s step tag).start + (part_for s step tag).len) ≤ object_size
part-in_range s step tag e = rw (base_by step) (by_step (eqb step 2))
  where
    by_step : (b : Bool) → let p = cond b s.card.step2 (part_in (rows_of (kind_at s.opening.mode 1)) s.card.step1 tag) in cond b (base_of 2) (base_of 1) + (p.start + p.len) ≤ object_size
    by_step true = part-ends (base_of 2) s.card.step2 (parts_in_range s e).1
    by_step false = parts_end (base_of 1) (kind_at s.opening.mode 1) s.card.step1 tag (base_inside 1) (parts_in_range s e).0

-- ---- the values by themselves
