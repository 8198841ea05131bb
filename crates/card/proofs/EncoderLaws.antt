-- The encoder and the header: what the encoder writes is read back, and every TLV that is read is one that the encoder
-- writes.
-- Assumes nothing.
use mathlib.Core.Path.{◌≡◌, refl, ap, ◌∙◌}
use mathlib.Core.Bool.{Bool, true, false, cond, and-eq-true_iff, false≢true}
use mathlib.Core.List.{List, [], ◌∷◌, ◌++◌, append_assoc}
use Prim.Native.Nat.{ℕ, zero, suc, ◌+◌, ◌-◌, ◌*◌, ◌/◌, ◌%◌, ◌≤◌, ◌<◌}
use native.Mathlib.Nat.{add-zero, div-add-mod'}
use native.Mathlib.Omega.{arith}
use borrow.Author.Tests.{eqb-true, lt-ltb, le-ltb, eq-eqb, ne_eqb}
use lib.Dec.{ltb, eqb}
use lib.ListN.{length, get_or, take, drop, length-append, length-drop, get_or-append}
use lib.Seq.{get_or-drop, get_or-take, take-add, take_at, drop_at, drop-append-add, drop-append_seam, length-take-le}
use Rattle.card.specs.Tlv.{tag_size, tag_number, nested_bit, length_size, length_of, header_of, tag_bytes, is_tag, length_bytes, fits_form, encoded, header}
use Rattle.std.specs.Prelude.{Some}
use Rattle.card.proofs.TlvLaws.{of_three, tag_cases, length_cases, Parts, whole, parts, tag_agree}

-- ---- the bytes of a number

-- the two bytes of which a number is made
two_bytes : (a b : ℕ) → b < 256 → ((a * 256 + b) / 256 ≡ a) × ((a * 256 + b) % 256 ≡ b)
two_bytes a b h = (omega arith, omega arith)

-- the three bytes of which a number is made
three_bytes : (a b c n : ℕ) → b < 256 → c < 256 → a * 65536 + b * 256 + c ≡ n → (n / 65536 ≡ a) × (n / 256 % 256 ≡ b) × (n % 256 ≡ c)
three_bytes a b c n h i e = (omega arith, omega arith, omega arith)

-- ---- what is written is read back

-- the number that k bytes make, high byte first
abbrev made : ℕ → ℕ → ℕ → ℕ → ℕ
made k a b c = cond (eqb k 1) a (cond (eqb k 2) (a * 256 + b) (a * 65536 + b * 256 + c))

-- the bytes of a number, one at least, make it
bytes_made : (t : ℕ) (x y : Bool) → ltb t 256 ≡ x → ltb t 65536 ≡ y → (0 < length (tag_bytes t)) × (of_three (made (length (tag_bytes t))) (tag_bytes t) ≡ t)
unfolding tag_bytes
bytes_made t true y p q = simp p (omega arith, refl)
bytes_made t false true p q = simp (p, q) (omega arith, div-add-mod' t 256)
bytes_made t false false p q = simp (p, q) (omega arith, omega arith)

-- the bytes of a tag are read as the tag, whatever stands after them
tag_read : (t : ℕ) (r : List ℕ) → is_tag t ≡ true
    → (of_three tag_size (tag_bytes t ++ r) ≡ length (tag_bytes t)) × (of_three tag_number (tag_bytes t ++ r) ≡ t) × (0 < length (tag_bytes t))
unfolding is_tag
tag_read t r h =
    let s = tag_bytes t in
    let b = bytes_made t (ltb t 256) (ltb t 65536) refl refl in
    let e : of_three tag_size s ≡ length s = eqb-true (of_three tag_size s) (length s) ((and-eq-true_iff (ltb t 0x1000000) (eqb (of_three tag_size s) (length s))).0 h).1 in
    let n = tag_cases (get_or s 0 0) (get_or s 1 0) (get_or s 2 0) (λ k n. n ≡ of_three (made k) s) (λ p. refl) (λ p q. refl) (λ p q r. refl) (omega arith) in
    let g = tag_agree s (s ++ r) (omega arith) (λ i l. get_or-append s r 0 i (omega arith)) in
    (g.0 ∙ e, g.1 ∙ n ∙ rw e b.1, b.0)

-- a form that has room for a length is one of the three
pub form_small : (form n : ℕ) → fits_form form n ≡ true → form ≤ 3
unfolding fits_form
form_small zero n h = omega arith
form_small (suc zero) n h = omega arith
form_small (suc (suc zero)) n h = omega arith
form_small (suc (suc (suc zero))) n h = omega arith
form_small (suc (suc (suc (suc k)))) n h =
    let m = suc (suc (suc (suc k))) in
    absurd (false≢true (simp (ne_eqb m 1 (omega arith), ne_eqb m 2 (omega arith), ne_eqb m 3 (omega arith)) at h))

-- the bytes of a length are read as the length, whatever stands after them
pub form_read : (form n : ℕ) (r : List ℕ) → fits_form form n ≡ true
    → (length_size (get_or (length_bytes form n ++ r) 0 0) ≡ form) × (of_three length_of (length_bytes form n ++ r) ≡ n)
    × (length (length_bytes form n) ≡ form) × (0 < form)
unfolding length_size length_of length_bytes fits_form
form_read zero n r h = absurd (false≢true h)
form_read (suc zero) n r h = (simp h, simp h, refl, omega arith)
form_read (suc (suc zero)) n r h = (refl, refl, refl, omega arith)
form_read (suc (suc (suc zero))) n r h = (refl, div-add-mod' n 256, refl, omega arith)
form_read (suc (suc (suc (suc k)))) n r h = absurd (omega (arith, form_small (suc (suc (suc (suc k)))) n h))

-- f of the three bytes from a place on
front_drop : (f : ℕ → ℕ → ℕ → ℕ) (t : ℕ) (s : List ℕ) {r : List ℕ} → drop t s ≡ r
    → f (get_or s t 0) (get_or s (t + 1) 0) (get_or s (t + 2) 0) ≡ of_three f r
front_drop f t s e = rw (← e) (simp (get_or-drop, add-zero))

-- the header of what is written
pub read_back : (form tag : ℕ) (value after : List ℕ) → is_tag tag ≡ true → fits_form form (length value) ≡ true
    → header_of (encoded form tag value ++ after) ≡ Some (header tag (nested_bit (get_or (tag_bytes tag) 0 0)) (length (tag_bytes tag) + form) (length value))
unfolding encoded
read_back form tag value after h k =
    let p = tag_bytes tag in
    let r = length_bytes form (length value) ++ (value ++ after) in
    let t = tag_read tag r h in
    let f = form_read form (length value) (value ++ after) k in
    simp append_assoc (whole (p ++ r) (length p) form record {
      size = t.0;
      number = t.1;
      bit = ap nested_bit (get_or-append p r 0 0 t.2);
      form = front_drop (λ a b c. length_size a) (length p) (p ++ r) (drop-append_seam p r) ∙ f.0;
      count = front_drop length_of (length p) (p ++ r) (drop-append_seam p r) ∙ f.1;
      tagged = t.2;
      formed = f.3;
      inside = simp length-append (omega arith);
    })

-- the value of what is written
pub read_back_value : (form tag : ℕ) (value after : List ℕ) → is_tag tag ≡ true → fits_form form (length value) ≡ true
    → take (length value) (drop (length (tag_bytes tag) + form) (encoded form tag value ++ after)) ≡ value
unfolding encoded
read_back_value form tag value after h k =
    let q = length_bytes form (length value) in
    simp (append_assoc, drop-append-add, drop_at q (value ++ after) form (form_read form (length value) [] k).2) (take_at value after (length value) refl)

-- ---- what is read is written back

-- the first k numbers of a list, its first three read one by one
front_is : (k : ℕ) (s : List ℕ) → k ≤ length s → take k (get_or s 0 0 ∷ get_or s 1 0 ∷ get_or s 2 0 ∷ drop 3 s) ≡ take k s
front_is zero s h = refl
front_is (suc k) [] h = absurd (omega arith)
front_is (suc zero) (a ∷ s) h = refl
front_is (suc (suc k)) (a ∷ []) h = absurd (omega arith)
front_is (suc (suc zero)) (a ∷ b ∷ s) h = refl
front_is (suc (suc (suc k))) (a ∷ b ∷ []) h = absurd (omega arith)
front_is (suc (suc (suc k))) (a ∷ b ∷ c ∷ s) h = refl

-- the bytes of a tag that is read are those of its number
tag_bytes_lem : (a b c : ℕ) (s : List ℕ) → a < 256 → b < 256 → c < 256 → 0 < tag_size a b c
    → (tag_number a b c < 0x1000000) × (tag_bytes (tag_number a b c) ≡ take (tag_size a b c) (a ∷ b ∷ c ∷ s))
unfolding tag_bytes
tag_bytes_lem a b c s h i j =
    let m = a * 256 + b in
    let l = a * 65536 + b * 256 + c in
    let v = two_bytes a b i in
    let w = three_bytes a b c l i j refl in
    let big : eqb (a % 32) 31 ≡ true → 31 ≤ a = λ p. omega (arith, eqb-true (a % 32) 31 p) in
    tag_cases a b c (λ k n. (n < 0x1000000) × (tag_bytes n ≡ take k (a ∷ b ∷ c ∷ s)))
    (λ p. (omega arith, simp (lt-ltb a 256 h)))
    (λ p q. (omega arith, simp (le-ltb m 256 (omega (arith, big p)), lt-ltb m 65536 (omega arith), v.0, v.1)))
    (λ p q r. (omega arith, simp (le-ltb l 256 (omega (arith, big p)), le-ltb l 65536 (omega (arith, big p)), w.0, w.1, w.2)))

-- the tag at the ofThree of a list is written in those bytes
tag_back : (s : List ℕ) → ((i : ℕ) → get_or s i 0 < 256) → 0 < of_three tag_size s → of_three tag_size s ≤ length s
    → (is_tag (of_three tag_number s) ≡ true) × (tag_bytes (of_three tag_number s) ≡ take (of_three tag_size s) s)
unfolding is_tag
tag_back s bytes h fits =
    let t = of_three tag_size s in
    let w = tag_bytes_lem (get_or s 0 0) (get_or s 1 0) (get_or s 2 0) (drop 3 s) (bytes 0) (bytes 1) (bytes 2) h in
    let e : tag_bytes (of_three tag_number s) ≡ take t s = w.1 ∙ front_is t s fits in
    let g = tag_agree s (take t s) h (λ i l. get_or-take t s i 0 l) in
    (rw (lt-ltb (of_three tag_number s) 0x1000000 w.0, e, length-take-le t s fits) (eq-eqb (of_three tag_size (take t s)) t g.0), e)

-- the bytes of a length that is read are those of its form
form_bytes : (a b c : ℕ) (s : List ℕ) → b < 256 → c < 256 → 0 < length_size a
    → (fits_form (length_size a) (length_of a b c) ≡ true) × (length_bytes (length_size a) (length_of a b c) ≡ take (length_size a) (a ∷ b ∷ c ∷ s))
unfolding length_bytes fits_form
form_bytes a b c s i j =
    length_cases a b c (λ k n. (fits_form k n ≡ true) × (length_bytes k n ≡ take k (a ∷ b ∷ c ∷ s)))
    (λ p. (p, refl)) (λ p. (lt-ltb b 256 i, rw p))
    (λ p. (lt-ltb (b * 256 + c) 65536 (omega arith), rw (p, (two_bytes b c j).0, (two_bytes b c j).1)))

-- every TLV that is read is its tag, its length in one of the forms, and its value
pub written_back : (s : List ℕ) {tag start len : ℕ} {nested : Bool} → ((i : ℕ) → get_or s i 0 < 256) → Some (header tag nested start len) ≡ header_of s
    → (is_tag tag ≡ true) × (fits_form (start - length (tag_bytes tag)) len ≡ true) × (start ≡ length (tag_bytes tag) + (start - length (tag_bytes tag)))
    × (take (start + len) s ≡ encoded (start - length (tag_bytes tag)) tag (take len (drop start s)))
unfolding encoded
written_back s {tag} {start} {len} {nested} bytes e =
    let t = of_three tag_size s in
    let a = get_or s t 0 in
    let l = length_size a in
    let at : t + l ≡ start = (parts s e).0 in
    let p : Parts s t l tag nested len = (parts s e).1 in
    let g : (is_tag tag ≡ true) × (tag_bytes tag ≡ take t s) = rw p.number at (tag_back s bytes p.tagged (omega arith)) in
    let f = rw p.count at (form_bytes a (get_or s (t + 1) 0) (get_or s (t + 2) 0) (drop 3 (drop t s)) (bytes (t + 1)) (bytes (t + 2)) p.formed) in
    let q : length_bytes l len ≡ take l (drop t s) = f.1 ∙ simp (get_or-drop, add-zero) at (front_is l (drop t s) (rw length-drop (omega arith))) in
    let form : start - length (tag_bytes tag) ≡ l = rw (g.1, length-take-le t s (omega arith)) (omega arith) in (
      g.0,
      rw form f.0,
      omega arith,
      rw (form, length-take-le len (drop start s) (rw length-drop (omega arith)), g.1, q, ← at) (rw (take-add (t + l) len s, take-add t l s)),
    )
