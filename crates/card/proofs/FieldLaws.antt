-- The fields of an object: what a row finds at a place, and what each turn of the walk over the rows adds.
-- Assumes nothing.
use mathlib.Core.Path.{◌≡◌, refl, sym, ap, subst, ◌∙◌}
use mathlib.Core.Bool.{Bool, true, false, cond}
use mathlib.Core.List.{List, [], ◌∷◌, ◌++◌, append-nil}
use Prim.Native.Nat.{ℕ, suc, ◌+◌, ◌-◌, ◌≤◌, ◌<◌}
use native.Mathlib.Numerals.{add-one}
use native.Mathlib.Omega.{arith}
use borrow.Author.Tests.{eq-eqb, ne_eqb, eqb-true, eqb-false}
use lib.Dec.{eqb}
use lib.ListN.{length, get_or, set, take, drop, replicate, length-set, take-append-drop}
use lib.Seq.{take-suc-set, drop-set-lt, drop-cons, get_or-drop, drop-drop, drop-length, length-take-le, append_snoc}
use Rattle.card.specs.Tlv.{header_of, header}
use Rattle.card.proofs.TlvLaws.{first_byte, place_inside}
use Rattle.card.specs.Object.{Field, most_fields, rows_of, empty, absent, found, field_from, row_field, fields_from, fields_answer, part_in, row_tag, no_parts}
use Rattle.card.specs.ObjectCode.{read_field}
use Rattle.std.specs.Bool.{then_some}
use Rattle.std.specs.List.{position_or_len}
use Rattle.std.proofs.lemmas.List.Recursion.{is_position_or_len}
use Rattle.card.specs.declared.tlv.Header.{Header}
use Rattle.std.specs.Prelude.{Option, Some, None}
use Rattle.card.specs.declared.object.Kind.{Kind}
use Rattle.card.specs.declared.object.Kind.TheVariants.{Signed, Unsigned, Fingers, Picture}
use Rattle.card.specs.declared.object.Row.{Row}
use Rattle.card.specs.declared.object.FieldRead.{FieldRead}
use Rattle.card.specs.declared.object.Part.{Part}

-- ---- one field

-- a row's field, by what stands at the place
module _ (v : List ℕ) (base : ℕ) (r : Row) (at : ℕ) where
  -- no TLV
  pub field_none : None ≡ header_of (drop at v) → absent r at ≡ row_field v base r at
  unfolding row_field field_from
  field_none e = rw (← e)

  module _ {tag start len : ℕ} {nested : Bool} (e : Some (header tag nested start len) ≡ header_of (drop at v)) where
    -- a TLV with another tag
    pub field_other : (tag ≡ r.tag → ⊥) → absent r at ≡ row_field v base r at
    unfolding row_field field_from
    field_other h = rw (← e, ne_eqb _ _ h)

    -- a TLV with its tag
    pub field_found : tag ≡ r.tag → found base r at start len ≡ row_field v base r at
    unfolding row_field field_from
    field_found h = rw (← e, eq-eqb _ _ h)

-- the two cases: it is absent, or a TLV with its tag stands at the place
pub field_cases : (v : List ℕ) (base : ℕ) (r : Row) (at : ℕ) (P : Field → Type 0) → P (absent r at)
    → ((tag start len : ℕ) (nested : Bool) → Some (header tag nested start len) ≡ header_of (drop at v) → tag ≡ r.tag → P (found base r at start len)) → P (row_field v base r at)
field_cases v base r at P none some = by_header (header_of (drop at v)) refl
  where
    by_header : (h : Option Header) → h ≡ header_of (drop at v) → P (row_field v base r at)
    by_header None e = subst P (field_none v base r at e) none
    by_header (Some h) e = by_tag (eqb h.tag r.tag) refl
      where
        by_tag : (k : Bool) → eqb h.tag r.tag ≡ k → P (row_field v base r at)
        by_tag true p = subst P (field_found v base r at e (eqb-true h.tag r.tag p)) (some h.tag h.start h.len h.nested e (eqb-true h.tag r.tag p))
        by_tag false p = subst P (field_other v base r at e (eqb-false h.tag r.tag p)) none

-- another byte than the row's tag stands at the place: it is absent
pub field_unlike : (v : List ℕ) (base : ℕ) (r : Row) (at : ℕ) → r.tag < 256 → (get_or v at 0 ≡ r.tag → ⊥) → absent r at ≡ row_field v base r at
field_unlike v base r at small h =
    let here : at + 0 ≡ at = omega arith in
    let front : get_or (drop at v) 0 0 ≡ get_or v at 0 = get_or-drop at v 0 0 ∙ ap (λ (i : ℕ). get_or v i 0) here in
    field_cases v base r at (λ (f : Field). absent r at ≡ f) refl
    (λ tag start len nested e k. absurd (h (sym front ∙ sym (first_byte (drop at v) e (omega (arith, k, small))) ∙ k)))

-- the next place lies within the value
pub field_next : (v : List ℕ) (base : ℕ) (r : Row) (at : ℕ) → at ≤ length v → (row_field v base r at).next ≤ length v
field_next v base r at h = field_cases v base r at (λ (f : Field). f.next ≤ length v) h (λ tag start len nested e k. place_inside v at e h)

-- what the code answers for a field: it is as its row asks, or not
pub field_taken : (f : Field) {x : FieldRead} → Some x ≡ read_field f → (f.ok ≡ true) × (f.part ≡ x.part) × (f.next ≡ x.next)
field_taken f {x} e = by_ok f.ok refl e
  where
    by_ok : (k : Bool) → f.ok ≡ k → ◌≡◌ {A = Option FieldRead} (Some x) (then_some k record { part = f.part; next = f.next }) → (f.ok ≡ true) × (f.part ≡ x.part) × (f.next ≡ x.next)
    by_ok true p q =
        let same : x ≡ record { part = f.part; next = f.next } = cc in
        (p, ap (λ (y : FieldRead). y.part) (sym same), ap (λ (y : FieldRead). y.next) (sym same))
    by_ok false p q = let h : ◌≡◌ {A = ℕ} 0 1 = cc in absurd (omega arith)

pub field_refused : (f : Field) → None ≡ read_field f → f.ok ≡ false
field_refused f e = by_ok f.ok refl e
  where
    by_ok : (k : Bool) → f.ok ≡ k → ◌≡◌ {A = Option FieldRead} None (then_some k record { part = f.part; next = f.next }) → f.ok ≡ false
    by_ok true p q = let h : ◌≡◌ {A = ℕ} 0 1 = cc in absurd (omega arith)
    by_ok false p q = p

-- ---- the walk over the rows

-- an object has no more rows than the most
pub few_rows : (k : Kind) → length (rows_of k) ≤ most_fields
unfolding rows_of
few_rows Signed = omega arith
few_rows Unsigned = omega arith
few_rows Fingers = omega arith
few_rows Picture = omega arith

-- What the loop over the rows knows when i of them are read, each as its row asks: the place reached, the parts stored,
-- and that they stand before those of the rows that follow.
pub record Read (v : List ℕ) (base : ℕ) (rows : List Row) (i : ℕ) (parts : List Part) (at : ℕ) : Type 0 where
  pub placed : at ≤ length v
  pub full : length parts ≡ most_fields
  pub unread : drop i parts ≡ replicate (most_fields - i) empty
  pub so_far : let g = fields_from v base (drop i rows) at in fields_from v base rows 0 ≡ (g.0, take i parts ++ g.1)

-- one part less is left
one_less : {v : List ℕ} {base : ℕ} {rows : List Row} {i : ℕ} {parts : List Part} {at : ℕ} → Read v base rows i parts at → i < most_fields
    → drop (i + 1) parts ≡ replicate (most_fields - (i + 1)) empty
one_less {i = i} {parts} p l =
    let e : most_fields - i ≡ suc (most_fields - (i + 1)) = omega arith in
    sym (drop-drop 1 i parts) ∙ ap (drop 1) (p.unread ∙ ap (λ (n : ℕ). replicate n empty) e)

-- row i and part i stand at the front of what is left
pub row_at : (rows : List Row) (i : ℕ) (d : Row) → i < length rows → drop i rows ≡ get_or rows i d ∷ drop (i + 1) rows
row_at rows i d h = rw add-one (drop-cons rows i d h)

-- one row more
more : (v : List ℕ) (base : ℕ) (r : Row) (rs : List Row) (at : ℕ) (ps : List Part) → (row_field v base r at).ok ≡ true
    → let f = row_field v base r at in let g = fields_from v base (r ∷ rs) at in let h = fields_from v base rs f.next in
    ◌≡◌ {A = Bool × List Part} (g.0, ps ++ g.1) (h.0, (ps ++ (f.part ∷ [])) ++ h.1)
unfolding fields_from
more v base r rs at ps e = rw (e, append_snoc)

-- row i is read, and its part is stored at place i
pub read_more : {v : List ℕ} {base : ℕ} {rows : List Row} {i : ℕ} {parts : List Part} {at : ℕ} (r : Row) {x : FieldRead}
    → Read v base rows i parts at → i < most_fields → drop i rows ≡ r ∷ drop (i + 1) rows → Some x ≡ read_field (row_field v base r at)
    → Read v base rows (i + 1) (set parts i x.part) x.next
read_more {v} {base} {rows} {i} {parts} {at} r {x} p l e q =
    let t = field_taken (row_field v base r at) q in
    record {
      placed = rw t.2 at (field_next v base r at p.placed);
      full = length-set parts i x.part ∙ p.full;
      unread = drop-set-lt (i + 1) parts i x.part (omega arith) ∙ one_less p l;
      so_far =
          p.so_far ∙ ap (λ (rs : List Row). let g = fields_from v base rs at in (g.0, take i parts ++ g.1)) e ∙ more v base r (drop (i + 1) rows) at (take i parts) t.0
          ∙ rw (t.1, t.2, add-one, take-suc-set parts i x.part (omega (arith, p.full)));
    }

-- row i is not as it asks: the object is malformed
pub read_refused : {v : List ℕ} {base : ℕ} {rows : List Row} {i : ℕ} {parts : List Part} {at : ℕ} (r : Row)
    → Read v base rows i parts at → drop i rows ≡ r ∷ drop (i + 1) rows → None ≡ read_field (row_field v base r at)
    → fields_answer (fields_from v base rows 0) ≡ (20, no_parts)
unfolding fields_answer fields_from
read_refused {v} {base} {rows} {i} {parts} {at} r p e q =
    rw (p.so_far, e, field_refused (row_field v base r at) q)

-- all rows are read: the place reached decides
pub read_all : {v : List ℕ} {base : ℕ} {rows : List Row} {i : ℕ} {parts : List Part} {at : ℕ} → Read v base rows i parts at → i ≡ length rows → i ≤ most_fields
    → fields_answer (fields_from v base rows 0) ≡ cond (eqb at (length v)) (0, parts) (20, no_parts)
unfolding fields_answer fields_from
read_all {v} {base} {rows} {i} {parts} {at} p e l =
    let none : drop i rows ≡ [] = rw e (drop-length rows) in
    let all_read : fields_from v base rows 0 ≡ (eqb at (length v), take i parts) = p.so_far ∙ rw (none, append-nil) in
    rw (all_read, length-take-le i parts (omega (arith, p.full)), ← p.unread, take-append-drop)

-- ---- a part by its tag

-- how many rows stand before the one with a tag
abbrev pub place_of : List Row → ℕ → ℕ
place_of [] tag = 0
place_of (r ∷ rs) tag = cond (eqb (row_tag r) tag) 0 (suc (place_of rs tag))

-- it is the library's word for the place
pub place_is : (rows : List Row) (tag : ℕ) → place_of rows tag ≡ position_or_len (λ (r : Row). eqb (row_tag r) tag) rows
place_is rows tag = is_position_or_len (λ (rs : List Row). place_of rs tag) (λ (r : Row). eqb (row_tag r) tag) refl (λ r rs. one_more (eqb (row_tag r) tag) (place_of rs tag)) rows
  where
    one_more : (k : Bool) (n : ℕ) → cond k 0 (suc n) ≡ cond k 0 (1 + n)
    one_more true n = refl
    one_more false n = omega arith

-- the part at that place is that of the tag; past the rows there is none
pub part_at : (rows : List Row) (parts : List Part) (tag : ℕ) → length rows ≤ length parts
    → (place_of rows tag < length rows → part_in rows parts tag ≡ get_or parts (place_of rows tag) empty) × (length rows ≤ place_of rows tag → part_in rows parts tag ≡ empty)
unfolding part_in
part_at [] parts tag h = (λ l. absurd (omega arith), λ l. refl)
part_at (r ∷ rs) [] tag h = absurd (omega arith)
part_at (r ∷ rs) (p ∷ ps) tag h = by_tag (eqb (row_tag r) tag) (part_at rs ps tag (omega arith))
  where
    by_tag : (k : Bool) → (place_of rs tag < length rs → part_in rs ps tag ≡ get_or ps (place_of rs tag) empty) × (length rs ≤ place_of rs tag → part_in rs ps tag ≡ empty)
        → let n = cond k 0 (suc (place_of rs tag)) in (n < suc (length rs) → cond k p (part_in rs ps tag) ≡ get_or (p ∷ ps) n empty) × (suc (length rs) ≤ n → cond k p (part_in rs ps tag) ≡ empty)
    by_tag true later = (λ l. refl, λ l. absurd (omega arith))
    by_tag false later = (λ l. later.0 (omega arith), λ l. later.1 (omega arith))
