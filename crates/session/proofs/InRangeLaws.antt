-- A session that stands for a reading is in range: number 4 fits no call of a list.
-- Assumes nothing.
use mathlib.Core.Path.{◌≡◌, refl, subst}
use mathlib.Core.Bool.{true, not, ◌&&◌, ◌||◌, or-true}
use mathlib.Core.Option.{Option}
use mathlib.Core.List.{List, [], ◌∷◌}
use Prim.Native.Nat.{ℕ, zero, suc, ◌+◌, ◌≤◌}
use native.Mathlib.Omega.{arith}
use borrow.Author.Tests.{le-leb, not-true, not-false}
use lib.Dec.{eqb}
use lib.ListN.{length, get_or}
use Rattle.card.specs.Tlv.{only_from, only_of}
use Rattle.card.specs.Object.{expiry_tag, biometric_tag, empty, most_fields, field_value, object_of, object_from}
use Rattle.card.specs.Date.{real_date}
use Rattle.card.specs.Command.{aid_refused}
use Rattle.card.specs.declared.object.Part.{Part}
use Rattle.card.specs.declared.object.Kind.{Kind}
use Rattle.card.specs.declared.object.Kind.TheVariants.{Signed}
use Rattle.common.proofs.ListsLaws.{all_of}
use Rattle.card.proofs.TlvLaws.{header_empty}
use Rattle.card.proofs.ObjectLaws.{AllInside, parts_inside_lem, part_inside_lem}
use Rattle.card.proofs.DateLaws.{date_real}
use Rattle.session.specs.Tables.{since, mode_in_range, kind_at, base_of, capacity, object_size, expiry_read}
use Rattle.session.specs.Reading.{Opening, StepOne, Reading}
use Rattle.session.specs.Ranges.{opening_in_range, part_inside, parts_inside, card_in_range, ranged_values, values_in_range, in_range}
use Rattle.session.specs.Operation.{no_parts}
use Rattle.session.specs.Promise.{good_opening}
use Rattle.common.proofs.TestLaws.{and_left, and_right, and_both}
use Rattle.session.proofs.FigureLaws.{base_fits}
use Rattle.session.proofs.Invariant.{expiry_of, parts_one, part_two, session_of, OneHeld, TwoHeld, Invariant}

-- ---- parts

-- a part that lies within a step's data lies inside the buffer
inside_one : (base n : ℕ) (p : Part) → base + n ≤ object_size → p.start + p.len ≤ n → part_inside base p ≡ true
inside_one base n p fits h = le-leb (base + p.start + p.len) object_size (omega (arith, fits, h))

inside_at : (base n : ℕ) (ps : List Part) → base + n ≤ object_size → AllInside n ps → (i : ℕ) → part_inside base (get_or ps i empty) ≡ true
inside_at base n [] fits a i = inside_one base n empty fits (omega arith)
inside_at base n (p ∷ ps) fits a zero = inside_one base n p fits a.0
inside_at base n (p ∷ ps) fits a (suc i) = inside_at base n ps fits a.1 i

parts_in_range : (base : ℕ) (k : Kind) (xs : List ℕ) → base + length xs ≤ object_size → parts_inside base (object_of k xs).1 ≡ true
unfolding parts_inside
parts_in_range base k xs fits = all_of _ most_fields (λ i l. inside_at base (length xs) (object_of k xs).1 fits (parts_inside_lem k xs) i)

-- the data of a step has room in the object buffer
step_fits : (mode step n : ℕ) → n ≤ capacity mode step → base_of step + n ≤ object_size
step_fits mode step n h = let fits = base_fits mode step in omega (arith, fits, h)

-- of no bytes there are only empty parts, so that empty parts are in range
pub none_parts : (k : Kind) → (object_of k []).1 ≡ no_parts
unfolding object_of object_from only_of only_from
none_parts k = rw header_empty

no_parts-in_range : (mode step : ℕ) → parts_inside (base_of step) no_parts ≡ true
no_parts-in_range mode step =
    subst (λ (ps : List Part). parts_inside (base_of step) ps ≡ true) (none_parts Signed) (parts_in_range (base_of step) Signed [] (step_fits mode step 0 (omega arith)))

-- ---- the groups

opening_in_range_lem : (o : Opening) → good_opening since o ≡ true → opening_in_range o.mode o.date (length o.aid) ≡ true
opening_in_range_lem o e =
    let a = mode_in_range since o.mode && real_date o.date in
    and_both (and_left a (not (aid_refused o.aid)) e) (not-false _ (not-true _ (and_right a (not (aid_refused o.aid)) e)))

card_in_range_lem : (mode : ℕ) (one : Option StepOne) (two : Option (List ℕ)) (m : List ℕ) → OneHeld mode one m → TwoHeld mode two m
    → card_in_range (expiry_of mode one) (parts_inside (base_of 1) (parts_one mode one) && part_inside (base_of 2) (part_two mode two)) ≡ true
card_in_range_lem mode one two m a b = and_both (expiry one a) (and_both (step1 one a) (step2 two b))
  where
    expiry : (one : Option StepOne) → OneHeld mode one m → eqb (expiry_of mode one) 0 || real_date (expiry_of mode one) ≡ true
    expiry Option.none a = refl
    expiry (Option.some f) a = rw (date_real (field_value (kind_at mode 1) expiry_tag f.joined) a.0.date) (or-true (eqb (expiry_read mode f.joined) 0))

    step1 : (one : Option StepOne) → OneHeld mode one m → parts_inside (base_of 1) (parts_one mode one) ≡ true
    step1 Option.none a = no_parts-in_range mode 1
    step1 (Option.some f) a = parts_in_range (base_of 1) (kind_at mode 1) f.joined (step_fits mode 1 (length f.joined) a.1.small)

    step2 : (two : Option (List ℕ)) → TwoHeld mode two m → part_inside (base_of 2) (part_two mode two) ≡ true
    step2 Option.none b = inside_one (base_of 2) 0 empty (step_fits mode 2 0 (omega arith)) (omega arith)
    step2 (Option.some xs) b = inside_one (base_of 2) (length xs) _ (step_fits mode 2 (length xs) b.1.small) (part_inside_lem (kind_at mode 2) xs biometric_tag)

pub in_range_lem : (r : Reading) (m : List ℕ) → Invariant r m → in_range (session_of r) ≡ true
unfolding in_range values_in_range ranged_values
in_range_lem r m i =
    let s = i.progress_good in
    and_both
    (and_both (opening_in_range_lem r.opening i.opening) (and_both (and_both s.step (le-leb _ _ s.filled)) (and_both s.cause s.outstanding)))
    (and_both i.judged.small (card_in_range_lem r.opening.mode r.found.step1 r.found.step2 m i.one i.two))
