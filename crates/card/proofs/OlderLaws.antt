-- Objects with the older elements (document 02, request 5): in an object that is accepted each of EE, 31, 32 and 33 has
-- its length or is absent; and beside the other fields of such an object any choice of the four is accepted, each given
-- or left out by itself.
-- Assumes nothing.
use mathlib.Core.Path.{◌≡◌, refl, sym, ap, subst, ◌∙◌}
use mathlib.Core.Bool.{Bool, true, false, cond, ◌||◌, false≢true}
use mathlib.Core.Logic.{◌⊎◌, inl, inr, ⊎_elim}
use mathlib.Core.List.{List, [], ◌∷◌, ◌++◌}
use Prim.Native.Nat.{ℕ, ◌+◌, ◌/◌, ◌%◌, ◌≤◌, ◌<◌}
use native.Mathlib.Omega.{arith}
use borrow.Author.Tests.{ne_eqb, eqb-false, lt-ltb}
use lib.Dec.{eqb, ltb}
use lib.ListN.{length, get_or, length-append}
use Rattle.common.specs.Lists.{is_in}
use Rattle.card.specs.Tlv.{tag_bytes, fits_form, encoded}
use Rattle.card.specs.Object.{data_object_tag, buffer_length_tag, fascn_tag, agency_tag, organization_tag, duns_tag, greatest, optional, first_rows, rows_of, object_of, field_part, field_value, row_in, Made, no_rows, left_out, given, value_in}
use Rattle.card.specs.declared.object.Kind.{Kind}
use Rattle.card.specs.declared.object.Kind.TheVariants.{Signed, Unsigned, Fingers, Picture}
use Rattle.card.specs.declared.object.Row.{Row}
use Rattle.card.proofs.EncoderLaws.{form_small}
use Rattle.card.proofs.ObjectLaws.{length_or_none}
use Rattle.card.proofs.MadeLaws.{encoded-length, made_accepted, made_value, object_made}

-- the length of an element that has n bytes or is absent
abbrev pub LengthOrNone : ℕ → ℕ → Type 0
LengthOrNone n len = (len ≡ n) ⊎ (len ≡ 0)

-- ---- in an object that is accepted

-- an object without such a row has no such field
no_older : (k : Kind) (s : List ℕ) → (object_of k s).0 ≡ 0 → (tag : ℕ) {n : ℕ} → row_in (rows_of k) tag ≡ optional tag 0 0 → LengthOrNone n (field_part k tag s).len
no_older k s p tag r = ⊎_elim inr inr (length_or_none k s tag 0 r p)

-- the four lengths
pub older_lengths : (k : Kind) (s : List ℕ) → (object_of k s).0 ≡ 0
    → LengthOrNone 2 (field_part k buffer_length_tag s).len × LengthOrNone 4 (field_part k agency_tag s).len × LengthOrNone 4 (field_part k organization_tag s).len × LengthOrNone 9 (field_part k duns_tag s).len
unfolding row_in rows_of
older_lengths Signed s p = (length_or_none Signed s buffer_length_tag 2 refl p, length_or_none Signed s agency_tag 4 refl p, length_or_none Signed s organization_tag 4 refl p, length_or_none Signed s duns_tag 9 refl p)
older_lengths Unsigned s p = (length_or_none Unsigned s buffer_length_tag 2 refl p, length_or_none Unsigned s agency_tag 4 refl p, length_or_none Unsigned s organization_tag 4 refl p, length_or_none Unsigned s duns_tag 9 refl p)
older_lengths Fingers s p = (no_older Fingers s p buffer_length_tag refl, no_older Fingers s p agency_tag refl, no_older Fingers s p organization_tag refl, no_older Fingers s p duns_tag refl)
older_lengths Picture s p = (no_older Picture s p buffer_length_tag refl, no_older Picture s p agency_tag refl, no_older Picture s p organization_tag refl, no_older Picture s p duns_tag refl)

-- ---- what is made for rows is not long

-- the bytes of a tag
tag_small : (t : ℕ) → length (tag_bytes t) ≤ 3
unfolding tag_bytes
tag_small t = go (ltb t 256) (ltb t 65536)
  where
    go : (x y : Bool) → length (cond x (t ∷ []) (cond y (t / 256 ∷ t % 256 ∷ []) (t / 65536 ∷ t / 256 % 256 ∷ t % 256 ∷ []))) ≤ 3
    go true y = omega arith
    go false true = omega arith
    go false false = omega arith

-- the most bytes that the fields of rows have
abbrev most : List Row → ℕ
most [] = 0
most (r ∷ rs) = 6 + greatest r + most rs

made_most : {rs : List Row} {v : List ℕ} {values : List (List ℕ)} → Made rs v values → length v ≤ most rs
made_most no_rows = omega arith
made_most (left_out o m) = let later = made_most m in omega arith
made_most (given {r} {v = v} form value low high fits m) =
    let later = made_most m in
    omega (arith, length-append (encoded form r.tag value) v, encoded-length form r.tag value fits, tag_small r.tag, form_small form (length value) fits)

-- so the longest form of a length has room for it
pub made_fits : (k : Kind) {v : List ℕ} {values : List (List ℕ)} → Made (rows_of k) v values → fits_form 3 (length v) ≡ true
unfolding fits_form rows_of
made_fits k {v} m = let h = made_most m in lt-ltb (length v) 65536 (omega (arith, h, rows_most k))
  where
    rows_most : (k : Kind) → most (rows_of k) < 65536
    rows_most Signed = omega arith
    rows_most Unsigned = omega arith
    rows_most Fingers = omega arith
    rows_most Picture = omega arith

-- ---- another choice of the four

-- what is made for rows begins with the first row's field, and that may stand before anything else that is made for the
-- rows after it
record FirstField (r : Row) (rs : List Row) (values : List (List ℕ)) : Type 0 where
  value : List ℕ
  later : List (List ℕ)
  these : values ≡ value ∷ later
  rest : List ℕ
  made : Made rs rest later
  again : (w : List ℕ) (others : List (List ℕ)) → Made rs w others → (v : List ℕ) × Made (r ∷ rs) v (value ∷ others)

first_field : {r : Row} {rs : List Row} {v : List ℕ} {values : List (List ℕ)} → Made (r ∷ rs) v values → FirstField r rs values
first_field (left_out {v = v} {values} o m) = record { value = []; later = values; these = refl; rest = v; made = m; again = λ w others q. (w, left_out o q) }
first_field (given {r} {v = v} {values} form value low high fits m) =
    record { value = value; later = values; these = refl; rest = v; made = m; again = λ w others q. (encoded form r.tag value ++ w, given form value low high fits q) }

-- an element with n bytes is given or left out before what is made for the rows after it
chosen : (tag n : ℕ) → n < 128 → (value : List ℕ) → LengthOrNone n (length value) → {rs : List Row} {v : List ℕ} {values : List (List ℕ)} → Made rs v values
    → (w : List ℕ) × Made (optional tag n n ∷ rs) w (value ∷ values)
unfolding fits_form
chosen tag n small [] fits {v = v} m = (v, left_out refl m)
chosen tag n small (x ∷ xs) (inl e) {v = v} m =
    (encoded 1 tag (x ∷ xs) ++ v, given {r = optional tag n n} 1 (x ∷ xs) (omega arith) (omega arith) (lt-ltb (length (x ∷ xs)) 128 (omega arith)) m)
chosen tag n small (x ∷ xs) (inr e) m = absurd (omega arith)

abbrev pub older_tags : List ℕ
older_tags = buffer_length_tag ∷ agency_tag ∷ organization_tag ∷ duns_tag ∷ []

-- a tag that is none of some tags
not_tag : (tag t : ℕ) (later : Bool) → eqb tag t || later ≡ false → (eqb t tag ≡ false) × (later ≡ false)
not_tag tag t later = go (eqb tag t) refl
  where
    go : (x : Bool) → eqb tag t ≡ x → x || later ≡ false → (eqb t tag ≡ false) × (later ≡ false)
    go true p e = absurd (false≢true (sym e))
    go false p e = (ne_eqb t tag (λ z. eqb-false tag t p (sym z)), e)

-- such a tag passes over the four
passed_over : (after : List Row) (ee fascn agency organization duns : List ℕ) (later : List (List ℕ)) (tag : ℕ) → is_in tag older_tags ≡ false
    → value_in (first_rows ++ after) (ee ∷ fascn ∷ agency ∷ organization ∷ duns ∷ later) tag ≡ cond (eqb fascn_tag tag) fascn (value_in after later tag)
unfolding value_in
passed_over after ee fascn agency organization duns later tag none =
    let a = not_tag tag buffer_length_tag _ none in
    let b = not_tag tag agency_tag _ a.1 in
    let c = not_tag tag organization_tag _ b.1 in
    let d = not_tag tag duns_tag _ c.1 in
    rw (a.0, b.0, c.0, d.0)

-- An object with these four elements, and in every other field what s has.
pub record WithElements (k : Kind) (s ee agency organization duns : List ℕ) : Type 0 where
  pub object : List ℕ
  pub accepted : (object_of k object).0 ≡ 0
  pub buffer_length : field_value k buffer_length_tag object ≡ ee
  pub agency_code : field_value k agency_tag object ≡ agency
  pub organization_identifier : field_value k organization_tag object ≡ organization
  pub duns_number : field_value k duns_tag object ≡ duns
  pub others : (tag : ℕ) → is_in tag older_tags ≡ false → field_value k tag object ≡ field_value k tag s

-- Whatever object of a kind is accepted, with the four elements chosen anew, each of its length or left out, there is
-- one that is accepted too, and its other fields are the same.
abbrev pub AnyElements : Kind → Type 0
AnyElements k =
    (s : List ℕ) → ((i : ℕ) → get_or s i 0 < 256) → (object_of k s).0 ≡ 0
    → (ee agency organization duns : List ℕ) → LengthOrNone 2 (length ee) → LengthOrNone 4 (length agency) → LengthOrNone 4 (length organization) → LengthOrNone 9 (length duns)
    → WithElements k s ee agency organization duns

-- so it is with every kind whose rows begin with the first rows
any_choice : (k : Kind) (after : List Row) → rows_of k ≡ first_rows ++ after → AnyElements k
unfolding value_in
any_choice k after shape s bytes p ee agency organization duns f g h i =
    let o = object_made k s bytes p in
    let m : Made (first_rows ++ after) o.1 o.2 = subst (λ (rs : List Row). Made rs o.1 o.2) shape o.3 in
    let a = first_field m in
    let b = first_field a.made in
    let c = first_field b.made in
    let d = first_field c.made in
    let e = first_field d.made in
    let x = chosen organization_tag 4 (omega arith) organization h (chosen duns_tag 9 (omega arith) duns i e.made).1 in
    let y = b.again _ _ (chosen agency_tag 4 (omega arith) agency g x.1).1 in
    let z = chosen buffer_length_tag 2 (omega arith) ee f y.1 in
    let new = ee ∷ b.value ∷ agency ∷ organization ∷ duns ∷ e.later in
    let n : Made (rows_of k) z.0 new = subst (λ (rs : List Row). Made rs z.0 new) (sym shape) z.1 in
    let whole = encoded 3 data_object_tag z.0 in
    let fields : (tag : ℕ) → field_value k tag whole ≡ value_in (first_rows ++ after) new tag = λ tag. made_value k 3 n (made_fits k n) tag ∙ ap (λ (rs : List Row). value_in rs new tag) shape in
    let old : o.2 ≡ a.value ∷ b.value ∷ c.value ∷ d.value ∷ e.value ∷ e.later = rw (← e.these, ← d.these, ← c.these, ← b.these) a.these in
    let before : (tag : ℕ) → field_value k tag s ≡ value_in (first_rows ++ after) o.2 tag =
    λ tag. ap (field_value k tag) o.5 ∙ made_value k o.0 o.3 o.4 tag ∙ ap (λ (rs : List Row). value_in rs o.2 tag) shape in
    record {
      object = whole;
      accepted = made_accepted k 3 n (made_fits k n);
      buffer_length = fields buffer_length_tag;
      agency_code = fields agency_tag;
      organization_identifier = fields organization_tag;
      duns_number = fields duns_tag;
      others = λ tag none. fields tag ∙ passed_over after ee b.value agency organization duns e.later tag none
          ∙ sym (before tag ∙ ap (λ (vs : List (List ℕ)). value_in (first_rows ++ after) vs tag) old ∙ passed_over after a.value b.value c.value d.value e.value e.later tag none);
    }

-- "EE with 2 bytes may stand before 30. Straight after 30 may stand 31 (4 bytes), 32 (4) and 33 (9), in this order,
-- each at most once. .. The unsigned object gains the same four."
pub signed_elements : AnyElements Signed
unfolding rows_of
signed_elements = any_choice Signed _ refl

pub unsigned_elements : AnyElements Unsigned
unfolding rows_of
unsigned_elements = any_choice Unsigned _ refl
