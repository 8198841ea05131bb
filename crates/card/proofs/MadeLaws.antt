-- An object is accepted exactly where it is what the encoder makes of values that its rows allow, and its fields are
-- then those values.
-- Assumes nothing.
use mathlib.Core.Path.{◌≡◌, refl, sym, ap, ap₂, subst, ◌∙◌}
use mathlib.Core.Bool.{Bool, true, false, cond, not, ◌&&◌, false≢true, and-eq-true_iff}
use mathlib.Core.List.{List, [], ◌∷◌, ◌++◌, map, map-append, append-nil}
use Prim.Native.Nat.{ℕ, zero, suc, ◌+◌, ◌-◌, ◌≤◌, ◌<◌}
use native.Mathlib.Omega.{arith}
use borrow.Author.Tests.{eq-eqb, le-leb, not-true, eqb-true, leb-true, ltb-true, ltb-false}
use lib.Dec.{eqb, leb, ltb}
use lib.ListN.{length, get_or, take, drop, replicate, length-append, length-drop, length-map, take-append-drop, drop_of_length-le, get_or-append, get_or-eq_default}
use lib.Seq.{take-length, take_all, drop_at, drop-drop, get_or-drop}
use Rattle.card.specs.Tlv.{tag_size, header_of, only_from, only_of, tag_bytes, is_tag, length_bytes, fits_form, encoded}
use Rattle.card.specs.Object.{Field, data_object_tag, row_tag, least, greatest, rows_of, most_fields, part, empty, absent, field_from, row_field, fields_from, fields_answer, object_from, object_of, part_in, bytes_at, field_value, Made, no_rows, left_out, given, value_in}
use Rattle.card.specs.declared.object.Kind.{Kind}
use Rattle.card.specs.declared.object.Kind.TheVariants.{Signed, Unsigned, Fingers, Picture}
use Rattle.card.specs.declared.object.Row.{Row}
use Rattle.card.specs.declared.object.Part.{Part}
use Rattle.card.proofs.TlvLaws.{header_empty, place_inside, after_place_lem, value_length}
use Rattle.card.proofs.EncoderLaws.{form_read, read_back, read_back_value, written_back}
use Rattle.card.proofs.FieldLaws.{field_cases, field_found}
use Rattle.card.proofs.ObjectLaws.{good}

-- ---- rows with unlike tags

-- Each row's tag is a tag, and not the given one; each row's tag is a tag, and not that of a later row.
abbrev pub unlike : ℕ → List Row → Bool
unlike tag [] = true
unlike tag (r ∷ rs) = is_tag (row_tag r) && (not (eqb (row_tag r) tag) && unlike tag rs)

abbrev pub apart : List Row → Bool
apart [] = true
apart (r ∷ rs) = is_tag (row_tag r) && (unlike (row_tag r) rs && apart rs)

-- so it is with the rows of every object
rows_apart : (k : Kind) → apart (rows_of k) ≡ true
unfolding rows_of is_tag tag_size tag_bytes
rows_apart Signed = refl
rows_apart Unsigned = refl
rows_apart Fingers = refl
rows_apart Picture = refl

-- ---- the fields of any rows

-- the length of what is written
pub encoded-length : (form tag : ℕ) (value : List ℕ) → fits_form form (length value) ≡ true → length (encoded form tag value) ≡ length (tag_bytes tag) + form + length value
unfolding encoded
encoded-length form tag value h = rw (length-append, length-append, (form_read form (length value) [] h).2) (omega arith)

-- three tests that are passed together
three : (x y z : Bool) → (x && (y && z)) ≡ true → (x ≡ true) × (y ≡ true) × (z ≡ true)
three true true z e = (refl, refl, e)
three true false z e = absurd (false≢true e)
three false y z e = absurd (false≢true e)

-- a row does not find its field in what is made for rows with other tags
not_found : (base : ℕ) (r : Row) (at : ℕ) {rs : List Row} {v : List ℕ} {values : List (List ℕ)} → unlike (row_tag r) rs ≡ true → Made rs v values
    → field_from (header_of v) base r at ≡ absent r at
unfolding field_from
not_found base r at u no_rows = rw header_empty
not_found base r at u (left_out {r = q} {rs} o m) = not_found base r at (three (is_tag (row_tag q)) (not (eqb (row_tag q) (row_tag r))) (unlike (row_tag r) rs) u).2 m
not_found base r at u (given {r = q} {rs} {v} form value low high fits m) =
    let i = three (is_tag (row_tag q)) (not (eqb (row_tag q) (row_tag r))) (unlike (row_tag r) rs) u in
    rw (read_back form (row_tag q) value v i.0 fits, not-true (eqb (row_tag q) (row_tag r)) i.1)

-- s holds v from place `base` on, and v holds what is made for the rows from place `at` on: all is as the rows ask, and
-- the parts hold the values
module _ (s v : List ℕ) (base : ℕ) (held : drop base s ≡ v) where
  fields_made : {rs : List Row} {w : List ℕ} {values : List (List ℕ)} (at : ℕ) → apart rs ≡ true → Made rs w values → at ≤ length v → drop at v ≡ w
      → let f = fields_from v base rs at in (f.0 ≡ true) × (map (bytes_at s) f.1 ≡ values)
  unfolding row_field fields_from bytes_at
  fields_made at p no_rows h e = (eq-eqb at (length v) (omega (arith, length-drop at v, ap length e)), refl)
  fields_made at p (left_out {r} {rs} o m) h e =
      let i = three (is_tag (row_tag r)) (unlike (row_tag r) rs) (apart rs) p in
      let later = fields_made at i.2 m h e in
      rw (e, not_found base r at i.1 m, o) (later.0, ap₂ ◌∷◌ refl later.1)
  fields_made at p (given {r} {rs} {v = w} form value low high fits m) h e =
      let i = three (is_tag (row_tag r)) (unlike (row_tag r) rs) (apart rs) p in
      let start = length (tag_bytes (row_tag r)) + form in
      let len = length value in
      let head = sym (ap header_of e ∙ read_back form (row_tag r) value w i.0 fits) in
      let here : bytes_at s (part (base + (at + start)) len) ≡ value =
      rw (← drop-drop, held, ← drop-drop, e) (read_back_value form (row_tag r) value w i.0 fits) in
      let after : drop (at + start + len) v ≡ w =
      rw (← after_place_lem v at start len, e) (drop_at (encoded form (row_tag r) value) w (start + len) (encoded-length form (row_tag r) value fits)) in
      let later = fields_made (at + start + len) i.2 m (place_inside v at head h) after in
      rw (← field_found v base r at head refl, le-leb (least r) len low, le-leb len (greatest r) high) (later.0, ap₂ ◌∷◌ here later.1)

-- the bytes of the part with a tag, by the bytes of the parts
value_at_lem : (s : List ℕ) (rs : List Row) (ps : List Part) (tag : ℕ) → bytes_at s (part_in rs ps tag) ≡ value_in rs (map (bytes_at s) ps) tag
unfolding part_in value_in bytes_at
value_at_lem s [] ps tag = refl
value_at_lem s (r ∷ rs) [] tag = refl
value_at_lem s (r ∷ rs) (p ∷ ps) tag = rw (← value_at_lem s rs ps tag) (either (eqb (row_tag r) tag))
  where
    either : (k : Bool) → bytes_at s (cond k p (part_in rs ps tag)) ≡ cond k (bytes_at s p) (bytes_at s (part_in rs ps tag))
    either true = refl
    either false = refl

-- what follows the values of the rows does not matter
value_front : {rs : List Row} {v : List ℕ} {values : List (List ℕ)} (more : List (List ℕ)) (tag : ℕ) → Made rs v values → value_in rs (values ++ more) tag ≡ value_in rs values tag
unfolding value_in
value_front more tag no_rows = refl
value_front more tag (left_out {r} o m) = ap (cond (eqb (row_tag r) tag) []) (value_front more tag m)
value_front more tag (given {r} form value low high fits m) = ap (cond (eqb (row_tag r) tag) value) (value_front more tag m)

-- empty parts hold nothing
map-empty : (s : List ℕ) (n : ℕ) → map (bytes_at s) (replicate n empty) ≡ replicate n []
unfolding bytes_at
map-empty s zero = refl
map-empty s (suc n) = ap (λ (l : List (List ℕ)). [] ∷ l) (map-empty s n)

-- ---- the object

-- an object that holds what is made for its rows
module _ (k : Kind) (form : ℕ) {v : List ℕ} {values : List (List ℕ)} (m : Made (rows_of k) v values) (h : fits_form form (length v) ≡ true) where
  -- v is its value
  held : drop (1 + form) (encoded form data_object_tag v) ≡ v
  unfolding encoded tag_bytes
  held = rw (← drop-drop form 1) (drop_at (length_bytes form (length v)) v form (form_read form (length v) [] h).2)

  -- the walk over its fields, and the answer
  fields : let f = fields_from v (1 + form) (rows_of k) 0 in (f.0 ≡ true) × (map (bytes_at (encoded form data_object_tag v)) f.1 ≡ values)
  fields = fields_made (encoded form data_object_tag v) v (1 + form) held 0 (rows_apart k) m (omega arith) refl

  answer : object_of k (encoded form data_object_tag v) ≡ fields_answer (true, (fields_from v (1 + form) (rows_of k) 0).1)
  unfolding object_of object_from only_of only_from is_tag tag_size tag_bytes fields_answer
  answer = rw (rw append-nil at (read_back form data_object_tag v [] refl h), eq-eqb _ _ (sym (encoded-length form data_object_tag v h)), held, take-length, fields.0)

  -- it is accepted
  pub made_accepted : (object_of k (encoded form data_object_tag v)).0 ≡ 0
  unfolding fields_answer
  made_accepted = rw answer

  -- its parts hold the values, in the order of the rows, and nothing past the last row
  pub made_values : map (bytes_at (encoded form data_object_tag v)) (object_of k (encoded form data_object_tag v)).1 ≡ values ++ replicate (most_fields - length values) []
  unfolding fields_answer
  made_values =
      let n = sym (length-map (fields_from v (1 + form) (rows_of k) 0).1 (bytes_at (encoded form data_object_tag v))) ∙ ap length fields.1 in
      rw (answer, map-append, n, fields.1, map-empty)

  -- and its fields hold them by their tags
  pub made_value : (tag : ℕ) → field_value k tag (encoded form data_object_tag v) ≡ value_in (rows_of k) values tag
  unfolding field_value
  made_value tag = rw (value_at_lem, made_values) (value_front (replicate (most_fields - length values) []) tag m)

-- ---- every object that is accepted is made

-- bytes are bytes in the first part of a list too
front_bytes : (w : List ℕ) (len : ℕ) → ((i : ℕ) → get_or w i 0 < 256) → (i : ℕ) → get_or (take len w) i 0 < 256
front_bytes w len bytes i = by_place (ltb i (length (take len w))) refl
  where
    by_place : (k : Bool) → ltb i (length (take len w)) ≡ k → get_or (take len w) i 0 < 256
    by_place true p =
        let e : get_or (take len w) i 0 ≡ get_or w i 0 =
        sym (get_or-append (take len w) (drop len w) 0 i (ltb-true i (length (take len w)) p)) ∙ ap (λ (l : List ℕ). get_or l i 0) (take-append-drop len w) in
        rw e (bytes i)
    by_place false p = rw (get_or-eq_default (take len w) 0 (ltb-false i (length (take len w)) p)) (omega arith)

-- the value v of an object, which begins at place base of it
module _ (v : List ℕ) (base : ℕ) (bytes : (i : ℕ) → get_or v i 0 < 256) where
  -- from a place on v is made for the rows
  abbrev MadeFrom : List Row → ℕ → Type 0
  MadeFrom rs at = (values : List (List ℕ)) × Made rs (drop at v) values

  -- one row more, given those after it
  one_field : (r : Row) (rs : List Row) (at : ℕ) → at ≤ length v → ((next : ℕ) → next ≤ length v → (fields_from v base rs next).0 ≡ true → MadeFrom rs next)
      → let f = row_field v base r at in f.ok ≡ true → (fields_from v base rs f.next).0 ≡ true → MadeFrom (r ∷ rs) at
  one_field r rs at h rest =
      field_cases v base r at (λ (f : Field). f.ok ≡ true → (fields_from v base rs f.next).0 ≡ true → MadeFrom (r ∷ rs) at)
      (λ o q. let later = rest at h q in ([] ∷ later.0, left_out o later.1))
      (λ tag start len nested e k o q.
      let later = rest (at + start + len) (place_inside v at e h) q in
      let w = written_back (drop at v) (λ i. rw get_or-drop (bytes (at + i))) e in
      let value = take len (drop start (drop at v)) in
      let size = value_length (drop at v) e in
      let fits = (and-eq-true_iff (leb (least r) len) (leb len (greatest r))).0 o in
      let form = start - length (tag_bytes tag) in
      let whole : encoded form (row_tag r) value ++ drop (at + start + len) v ≡ drop at v = rw (← k, ← w.3, ← after_place_lem v at start len) (take-append-drop (start + len) (drop at v)) in (
        value ∷ later.0,
        subst (λ (l : List ℕ). Made (r ∷ rs) l (value ∷ later.0)) whole
            (given form value (rw size (leb-true (least r) len fits.0)) (rw size (leb-true len (greatest r) fits.1)) (rw size w.1) later.1),
      ))

  -- all of them
  fields_read : (rs : List Row) (at : ℕ) → at ≤ length v → (fields_from v base rs at).0 ≡ true → MadeFrom rs at
  unfolding fields_from
  fields_read [] at h o = ([], subst (λ (l : List ℕ). Made [] l []) (sym (drop_of_length-le v {i = at} (omega (arith, eqb-true at (length v) o)))) no_rows)
  fields_read (r ∷ rs) at h o =
      let f = row_field v base r at in
      let p = (and-eq-true_iff f.ok (fields_from v base rs f.next).0).0 o in
      one_field r rs at h (λ next i q. fields_read rs next i q) p.0 p.1

-- an object that is accepted is the encoding of what is made for its rows; so, by `made_value`, its fields are the
-- values
pub object_made : (k : Kind) (s : List ℕ) → ((i : ℕ) → get_or s i 0 < 256) → (object_of k s).0 ≡ 0
    → (form : ℕ) × (v : List ℕ) × (values : List (List ℕ)) × Made (rows_of k) v values × (fits_form form (length v) ≡ true) × (s ≡ encoded form data_object_tag v)
object_made k s bytes p =
    let g = good k s p in
    let v = take g.len (drop g.start s) in
    let f = fields_read v g.start (front_bytes (drop g.start s) g.len (λ i. rw get_or-drop (bytes (g.start + i)))) (rows_of k) 0 (omega arith) g.fields in
    let w = written_back s bytes g.whole in
    (g.start - length (tag_bytes data_object_tag), v, f.0, f.1, rw (value_length s g.whole) w.1, sym (take_all (g.start + g.len) s (omega (arith, g.ends))) ∙ w.3)
