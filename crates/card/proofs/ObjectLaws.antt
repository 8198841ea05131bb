-- The laws of data objects: where the parts lie, what lengths they have, and that what stands after an object does not
-- matter. A crate above cites these.
-- Assumes nothing.
use mathlib.Core.Path.{◌≡◌, refl, sym, ap, subst, ◌∙◌}
use mathlib.Core.Bool.{Bool, true, false, cond, ◌&&◌, ◌||◌, and-eq-true_iff, or-true}
use mathlib.Core.Logic.{◌⊎◌, inl, inr}
use mathlib.Core.List.{List, [], ◌∷◌, ◌++◌}
use Prim.Native.Nat.{ℕ, zero, suc, ◌+◌, ◌-◌, ◌≤◌, ◌<◌}
use native.Mathlib.Omega.{arith}
use borrow.Author.Tests.{leb-true, eqb-true}
use lib.Dec.{eqb, leb}
use lib.ListN.{length, take, drop, replicate, length-drop}
use lib.Seq.{take-append-le, drop-append-le}
use Rattle.card.specs.Tlv.{header_of, only_of, header}
use Rattle.card.specs.Object.{Field, data_object_tag, fascn_tag, guid_tag, expiry_tag, signature_tag, biometric_tag, most_fields, required, optional, empty, rows_of, row_field, fields_from, fields_answer, object_from, object_of, part_in, bytes_at, field_part, field_value, allowed, row_in}
use Rattle.card.specs.declared.tlv.Header.{Header}
use Rattle.std.specs.Prelude.{Option, Some, None}
use Rattle.card.specs.declared.object.Kind.{Kind}
use Rattle.card.specs.declared.object.Kind.TheVariants.{Signed, Unsigned, Fingers, Picture}
use Rattle.card.specs.declared.object.Row.{Row}
use Rattle.card.specs.declared.object.Part.{Part}
use Rattle.card.proofs.TlvLaws.{place_inside, value_length, header_start, only_is}
use Rattle.card.proofs.FieldLaws.{field_cases}

-- ---- where the parts lie

-- a part ends within n bytes, and so does each of several
abbrev pub Inside : ℕ → Part → Type 0
Inside n p = p.start + p.len ≤ n

abbrev pub AllInside : ℕ → List Part → Type 0
AllInside n [] = Unit
AllInside n (p ∷ ps) = Inside n p × AllInside n ps

-- a field's part lies within the whole, and the next place within the value
field_inside : (v : List ℕ) (base : ℕ) (r : Row) (at : ℕ) → at ≤ length v
    → Inside (base + length v) (row_field v base r at).part × ((row_field v base r at).next ≤ length v)
field_inside v base r at h =
    field_cases v base r at (λ (f : Field). Inside (base + length v) f.part × (f.next ≤ length v)) (omega arith, h)
    (λ tag start len nested e k. let i = place_inside v at e h in (omega arith, i))

-- the same of the fields of the rows from a place on
fields_inside : (v : List ℕ) (base : ℕ) (rs : List Row) (at : ℕ) → at ≤ length v → AllInside (base + length v) (fields_from v base rs at).1
unfolding fields_from
fields_inside v base [] at h = tt
fields_inside v base (r ∷ rs) at h = let i = field_inside v base r at h in (i.0, fields_inside v base rs (row_field v base r at).next i.1)

-- two lists of such parts make one
inside_append : (n : ℕ) (ps qs : List Part) → AllInside n ps → AllInside n qs → AllInside n (ps ++ qs)
inside_append n [] qs i j = j
inside_append n (p ∷ ps) qs i j = (i.0, inside_append n ps qs i.1 j)

-- empty parts lie within any bytes
inside_empty : (m n : ℕ) → AllInside n (replicate m empty)
inside_empty zero n = tt
inside_empty (suc m) n = (omega arith, inside_empty m n)

-- the answer adds empty parts, or has only such
answer_inside : (n : ℕ) (ok : Bool) (ps : List Part) → AllInside n ps → AllInside n (fields_answer (ok, ps)).1
unfolding fields_answer
answer_inside n true ps i = inside_append n ps (replicate (most_fields - length ps) empty) i (inside_empty (most_fields - length ps) n)
answer_inside n false ps i = inside_empty most_fields n

-- the value of the one TLV that a list is ends where the list ends
value_end : (s : List ℕ) {tag start len : ℕ} {nested : Bool} → Some (header tag nested start len) ≡ only_of data_object_tag s → start + length (take len (drop start s)) ≡ length s
value_end s e =
    let i = only_is data_object_tag s e in
    omega (arith, i.2, value_length s i.0)

-- every part of an object lies within it, of a malformed one too: there they are empty
pub parts_inside_lem : (k : Kind) (s : List ℕ) → AllInside (length s) (object_of k s).1
unfolding object_of object_from fields_answer
parts_inside_lem k s = by_header (only_of data_object_tag s) refl
  where
    by_header : (h : Option Header) → h ≡ only_of data_object_tag s → AllInside (length s) (object_from h k s).1
    by_header None e = inside_empty most_fields (length s)
    by_header (Some h) e =
        let v = take h.len (drop h.start s) in
        let f = fields_from v h.start (rows_of k) 0 in
        subst (λ (n : ℕ). AllInside n (fields_answer f).1) (value_end s e)
        (answer_inside (h.start + length v) f.0 f.1 (fields_inside v h.start (rows_of k) 0 (omega arith)))

-- and so does the part of the field with a tag
part_inside_of : (n : ℕ) (rs : List Row) (ps : List Part) (tag : ℕ) → AllInside n ps → Inside n (part_in rs ps tag)
unfolding part_in
part_inside_of n [] ps tag i = omega arith
part_inside_of n (r ∷ rs) [] tag i = omega arith
part_inside_of n (r ∷ rs) (p ∷ ps) tag i = by_tag (eqb r.tag tag) (part_inside_of n rs ps tag i.1)
  where
    by_tag : (k : Bool) → Inside n (part_in rs ps tag) → Inside n (cond k p (part_in rs ps tag))
    by_tag true later = i.0
    by_tag false later = later

-- in an object
pub part_inside_lem : (k : Kind) (s : List ℕ) (tag : ℕ) → Inside (length s) (field_part k tag s)
part_inside_lem k s tag = part_inside_of (length s) (rows_of k) (object_of k s).1 tag (parts_inside_lem k s)

-- ---- what stands after an object

-- the bytes of a part that lies within a list do not depend on what stands after the list
pub bytes_after : (s after : List ℕ) (p : Part) → Inside (length s) p → bytes_at (s ++ after) p ≡ bytes_at s p
unfolding bytes_at
bytes_after s after p i =
    rw (drop-append-le p.start s after (omega arith), take-append-le p.len (drop p.start s) after (omega (arith, length-drop p.start s)))

-- so a field's value stays what it is
pub field_after : (k : Kind) (tag : ℕ) (s after : List ℕ) → bytes_at (s ++ after) (field_part k tag s) ≡ field_value k tag s
unfolding field_value
field_after k tag s after = bytes_after s after (field_part k tag s) (part_inside_lem k s tag)

-- ---- the lengths of the fields of a good object

-- a good object: one TLV 53, whose fields are as the rows ask
pub record Good (k : Kind) (s : List ℕ) : Type 0 where
  pub nested : Bool
  pub start : ℕ
  pub len : ℕ
  pub whole : Some (header data_object_tag nested start len) ≡ header_of s
  pub ends : start + len ≡ length s
  pub fields : (fields_from (take len (drop start s)) start (rows_of k) 0).0 ≡ true
  pub filler : List Part
  pub parts : (object_of k s).1 ≡ (fields_from (take len (drop start s)) start (rows_of k) 0).1 ++ filler

-- an answer with cause 0 has the parts that were read
answered : (ok : Bool) (ps : List Part) → (fields_answer (ok, ps)).0 ≡ 0 → (ok ≡ true) × ((fields_answer (ok, ps)).1 ≡ ps ++ replicate (most_fields - length ps) empty)
unfolding fields_answer
answered true ps e = (refl, refl)
answered false ps e = absurd (omega arith)

-- an object that is accepted is good
pub good : (k : Kind) (s : List ℕ) → (object_of k s).0 ≡ 0 → Good k s
unfolding object_of object_from fields_answer
good k s p = by_header (only_of data_object_tag s) refl p
  where
    by_header : (h : Option Header) → h ≡ only_of data_object_tag s → (object_from h k s).0 ≡ 0 → Good k s
    by_header None e q = absurd (omega arith)
    by_header (Some h) e q =
        let i = only_is data_object_tag s e in
        let f = fields_from (take h.len (drop h.start s)) h.start (rows_of k) 0 in
        let a = answered f.0 f.1 q in
        record {
          nested = h.nested;
          start = h.start;
          len = h.len;
          whole = rw (← i.1) i.0;
          ends = i.2;
          fields = a.0;
          filler = replicate (most_fields - length f.1) empty;
          parts = ap (λ (x : Option Header). (object_from x k s).1) (sym e) ∙ a.1;
        }

-- a good object is not empty
pub object_not_empty : (k : Kind) (s : List ℕ) → (object_of k s).0 ≡ 0 → 0 < length s
object_not_empty k s p = let g = good k s p in omega (arith, g.ends, header_start s g.whole)

-- a field that is as its row asks has a length that the row allows
field_allowed : (v : List ℕ) (base : ℕ) (r : Row) (at : ℕ) → (row_field v base r at).ok ≡ true → allowed r (row_field v base r at).part.len ≡ true
field_allowed v base r at =
    field_cases v base r at (λ (f : Field). f.ok ≡ true → allowed r f.part.len ≡ true)
    (λ (o : r.optional ≡ true). rw o (or-true (leb r.least 0 && leb 0 r.most))) (λ tag start len nested e k o. rw o)

-- the same of the row with a tag, among the rows from a place on
fields_allowed : (v : List ℕ) (base : ℕ) (rs : List Row) (at tag : ℕ) (more : List Part) → (fields_from v base rs at).0 ≡ true
    → allowed (row_in rs tag) (part_in rs ((fields_from v base rs at).1 ++ more) tag).len ≡ true
unfolding fields_from part_in row_in
fields_allowed v base [] at tag more o = refl
fields_allowed v base (r ∷ rs) at tag more o =
    let f = row_field v base r at in
    let after = fields_from v base rs f.next in
    let p = (and-eq-true_iff f.ok after.0).0 o in
    by_tag (eqb r.tag tag) (field_allowed v base r at p.0) (fields_allowed v base rs f.next tag more p.1)
  where
    by_tag : (k : Bool) → let f = row_field v base r at in let q = part_in rs ((fields_from v base rs f.next).1 ++ more) tag in
        allowed r f.part.len ≡ true → allowed (row_in rs tag) q.len ≡ true → allowed (cond k r (row_in rs tag)) (cond k f.part q).len ≡ true
    by_tag true here later = here
    by_tag false here later = later

-- the field with a tag in a good object has a length that its row allows
pub part-allowed : (k : Kind) (s : List ℕ) (tag : ℕ) → (object_of k s).0 ≡ 0 → allowed (row_in (rows_of k) tag) (field_part k tag s).len ≡ true
part-allowed k s tag p =
    let g = good k s p in
    rw g.parts (fields_allowed (take g.len (drop g.start s)) g.start (rows_of k) 0 tag g.filler g.fields)

-- the first of two tests passes where the second does not
or_left : (x : Bool) → (x || false) ≡ true → x ≡ true
or_left true e = refl
or_left false e = e

-- the field with a tag that has to be there, in a good object: it has a length between the least and the greatest
pub length-between : (k : Kind) (s : List ℕ) (tag low high : ℕ) → row_in (rows_of k) tag ≡ required tag low high → (object_of k s).0 ≡ 0
    → let n = (field_part k tag s).len in (low ≤ n) × (n ≤ high)
length-between k s tag low high r p =
    let n = (field_part k tag s).len in
    let fits : allowed (required tag low high) n ≡ true = rw r at (part-allowed k s tag p) in
    let q = (and-eq-true_iff (leb low n) (leb n high)).0 (or_left (leb low n && leb n high) fits) in
    (leb-true low n q.0, leb-true n high q.1)

-- so where its row fixes the length, it has that length
pub length_is : (k : Kind) (s : List ℕ) (tag n : ℕ) → row_in (rows_of k) tag ≡ required tag n n → (object_of k s).0 ≡ 0 → (field_part k tag s).len ≡ n
length_is k s tag n r p = let b = length-between k s tag n n r p in omega (arith, b.0, b.1)

-- and the field with a tag that may be absent then has that length, or is empty
pub length_or_none : (k : Kind) (s : List ℕ) (tag n : ℕ) → row_in (rows_of k) tag ≡ optional tag n n → (object_of k s).0 ≡ 0
    → ((field_part k tag s).len ≡ n) ⊎ ((field_part k tag s).len ≡ 0)
length_or_none k s tag n r p =
    let len = (field_part k tag s).len in
    let fits : allowed (optional tag n n) len ≡ true = rw r at (part-allowed k s tag p) in
    either len (eqb len 0) refl fits
  where
    either : (len : ℕ) (none : Bool) → eqb len 0 ≡ none → allowed (optional tag n n) len ≡ true → (len ≡ n) ⊎ (len ≡ 0)
    either len true e fits = inr (eqb-true len 0 e)
    either len false e fits =
        let q = (and-eq-true_iff (leb n len) (leb len n)).0 (or_left (leb n len && leb len n) (rw e at fits)) in
        inl (let low = leb-true n len q.0 in let high = leb-true len n q.1 in omega arith)

-- the lengths of the fields that have to be there, object by object
pub signed_lengths : (s : List ℕ) → (object_of Signed s).0 ≡ 0
    → ((field_part Signed fascn_tag s).len ≡ 25) × ((field_part Signed guid_tag s).len ≡ 16) × ((field_part Signed expiry_tag s).len ≡ 8) × (1 ≤ (field_part Signed signature_tag s).len) × ((field_part Signed signature_tag s).len ≤ 2816)
unfolding row_in rows_of
signed_lengths s p =
    let b = length-between Signed s signature_tag 1 2816 refl p in
    (length_is Signed s fascn_tag 25 refl p, length_is Signed s guid_tag 16 refl p, length_is Signed s expiry_tag 8 refl p, b.0, b.1)

pub unsigned_lengths : (s : List ℕ) → (object_of Unsigned s).0 ≡ 0 → ((field_part Unsigned fascn_tag s).len ≡ 25) × ((field_part Unsigned expiry_tag s).len ≡ 8)
unfolding row_in rows_of
unsigned_lengths s p = (length_is Unsigned s fascn_tag 25 refl p, length_is Unsigned s expiry_tag 8 refl p)

pub fingers_lengths : (s : List ℕ) → (object_of Fingers s).0 ≡ 0 → (1 ≤ (field_part Fingers biometric_tag s).len) × ((field_part Fingers biometric_tag s).len ≤ 862)
unfolding row_in rows_of
fingers_lengths s p = length-between Fingers s biometric_tag 1 862 refl p

pub picture_lengths : (s : List ℕ) → (object_of Picture s).0 ≡ 0 → (1 ≤ (field_part Picture biometric_tag s).len) × ((field_part Picture biometric_tag s).len ≤ 16000)
unfolding row_in rows_of
picture_lengths s p = length-between Picture s biometric_tag 1 16000 refl p
