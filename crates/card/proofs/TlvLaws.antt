-- A TLV that is whole: what its header says of its bytes, that it lies within its list, and that what stands after it
-- does not matter.
-- Assumes nothing.
use mathlib.Core.Path.{◌≡◌, refl, sym, ap, ◌∙◌}
use mathlib.Core.Bool.{Bool, true, false, cond, ◌&&◌, and-eq-true_iff}
use mathlib.Core.List.{List, [], ◌++◌}
use Prim.Native.Nat.{ℕ, ◌+◌, ◌*◌, ◌%◌, ◌≤◌, ◌<◌}
use native.Mathlib.Nat.{add_assoc}
use native.Mathlib.Omega.{arith}
use borrow.Author.Tests.{eqb-true, ltb-false, eqb-false, le-ltb, ne_eqb}
use lib.ListN.{length, get_or, take, drop, length-append, length-drop, get_or-append}
use lib.Seq.{drop-drop, length-take-le}
use lib.Dec.{ltb, eqb}
use Rattle.card.specs.Tlv.{tag_size, tag_number, nested_bit, length_size, length_of, ending_of, after_tag, header_of, only_from, only_of, header}
use Rattle.card.specs.declared.tlv.Header.{Header}
use Rattle.std.specs.Prelude.{Option, Some, None, Ok, Err, ok_or}

-- ---- the parts of a header

-- f of the first three bytes
abbrev pub of_three : (ℕ → ℕ → ℕ → ℕ) → List ℕ → ℕ
of_three f s = f (get_or s 0 0) (get_or s 1 0) (get_or s 2 0)

-- s begins with a whole TLV, whose tag takes t bytes and whose length takes l
pub record Parts (s : List ℕ) (t l tag : ℕ) (nested : Bool) (len : ℕ) : Type 0 where
  pub size : of_three tag_size s ≡ t
  pub number : of_three tag_number s ≡ tag
  pub bit : nested_bit (get_or s 0 0) ≡ nested
  pub form : length_size (get_or s t 0) ≡ l
  pub count : length_of (get_or s t 0) (get_or s (t + 1) 0) (get_or s (t + 2) 0) ≡ len
  pub tagged : 0 < t
  pub formed : 0 < l
  pub inside : t + l + len ≤ length s

-- so its header is whole
pub whole : (s : List ℕ) (t l : ℕ) {tag len : ℕ} {nested : Bool} → Parts s t l tag nested len → header_of s ≡ Some (header tag nested (t + l) len)
unfolding header_of after_tag ending_of
whole s t l {tag} {len} {nested} p =
    simp (p.size, p.number, p.bit, p.form, p.count, ne_eqb t 0 (omega arith), ne_eqb l 0 (omega arith), le-ltb (length s) (t + l + len) p.inside)

-- a whole TLV has passed the three tests
picked : (x y z : Bool) (tag' : ℕ) (k' : Bool) (start' len' : ℕ) {tag start len : ℕ} {k : Bool}
    → Some (header tag k start len) ≡ cond x None (cond y None (cond z None (Some (header tag' k' start' len'))))
    → (x ≡ false) × (y ≡ false) × (z ≡ false) × (tag' ≡ tag) × (k' ≡ k) × (start' ≡ start) × (len' ≡ len)
picked true y z tag' k' start' len' e = let h : ◌≡◌ {A = ℕ} 0 1 = cc in absurd (omega arith)
picked false true z tag' k' start' len' e = let h : ◌≡◌ {A = ℕ} 0 1 = cc in absurd (omega arith)
picked false false true tag' k' start' len' e = let h : ◌≡◌ {A = ℕ} 0 1 = cc in absurd (omega arith)
picked false false false tag' k' start' len' {tag} {start} {len} {k} e =
    let same : header tag' k' start' len' ≡ header tag k start len = cc in
    (refl, refl, refl, ap (λ (h : Header). h.tag) same, ap (λ (h : Header). h.nested) same, ap (λ (h : Header). h.start) same, ap (λ (h : Header). h.len) same)

-- and the other way: a header that is whole has these parts
pub parts : (s : List ℕ) {tag start len : ℕ} {nested : Bool} → Some (header tag nested start len) ≡ header_of s
    → (of_three tag_size s + length_size (get_or s (of_three tag_size s) 0) ≡ start)
    × Parts s (of_three tag_size s) (length_size (get_or s (of_three tag_size s) 0)) tag nested len
unfolding header_of after_tag ending_of
parts s {tag} {start} {len} {nested} e =
    let t = of_three tag_size s in
    let l = length_size (get_or s t 0) in
    let n = length_of (get_or s t 0) (get_or s (t + 1) 0) (get_or s (t + 2) 0) in
    let p = picked (eqb t 0) (eqb l 0) (ltb (length s) (t + l + n)) (of_three tag_number s) (nested_bit (get_or s 0 0)) (t + l) n e in (
      p.5,
      record {
        size = refl;
        number = p.3;
        bit = p.4;
        form = refl;
        count = p.6;
        tagged = omega (arith, eqb-false t 0 p.0);
        formed = omega (arith, eqb-false l 0 p.1);
        inside = omega (arith, ltb-false (length s) (t + l + n) p.2, p.6);
      },
    )

-- ---- where a TLV lies

-- no bytes are no TLV
pub header_empty : header_of [] ≡ None
unfolding header_of after_tag ending_of tag_size length_size length_of
header_empty = refl

-- it ends within the list
pub header_inside : (s : List ℕ) {tag start len : ℕ} {nested : Bool} → Some (header tag nested start len) ≡ header_of s → start + len ≤ length s
header_inside s e = let p = parts s e in omega arith

-- and so does the TLV at a place of the list
pub place_inside : (s : List ℕ) (at : ℕ) {tag start len : ℕ} {nested : Bool} → Some (header tag nested start len) ≡ header_of (drop at s) → at ≤ length s → at + start + len ≤ length s
place_inside s at e h = omega (arith, header_inside (drop at s) e, length-drop at s)

-- what stands after it there
pub after_place_lem : (s : List ℕ) (at start len : ℕ) → drop (start + len) (drop at s) ≡ drop (at + start + len) s
after_place_lem s at start len = rw (drop-drop, add_assoc)

-- its value has as many bytes as the length says
pub value_length : (s : List ℕ) {tag start len : ℕ} {nested : Bool} → Some (header tag nested start len) ≡ header_of s → length (take len (drop start s)) ≡ len
value_length s {start = start} {len} e = length-take-le len (drop start s) (omega (arith, header_inside s e, length-drop start s))

-- its value has a tag byte and a length byte at least before it
pub header_two : (s : List ℕ) {tag start len : ℕ} {nested : Bool} → Some (header tag nested start len) ≡ header_of s → 1 < start
header_two s e = let p = parts s e in omega arith

-- so a walk over TLVs goes on
pub header_start : (s : List ℕ) {tag start len : ℕ} {nested : Bool} → Some (header tag nested start len) ≡ header_of s → 0 < start
header_start s e = let h = header_two s e in omega arith

-- ---- the three sizes of a tag and of a length

-- a law on the size and the number of a tag, size by size
pub tag_cases : (a b c : ℕ) (P : ℕ → ℕ → Type 0) → (eqb (a % 32) 31 ≡ false → P 1 a)
    → (eqb (a % 32) 31 ≡ true → ltb b 128 ≡ true → P 2 (a * 256 + b))
    → (eqb (a % 32) 31 ≡ true → ltb b 128 ≡ false → ltb c 128 ≡ true → P 3 (a * 65536 + b * 256 + c))
    → 0 < tag_size a b c → P (tag_size a b c) (tag_number a b c)
unfolding tag_size tag_number
tag_cases a b c P u v w h = go (eqb (a % 32) 31) (ltb b 128) (ltb c 128) refl refl refl
  where
    go : (x y z : Bool) → eqb (a % 32) 31 ≡ x → ltb b 128 ≡ y → ltb c 128 ≡ z → P (tag_size a b c) (tag_number a b c)
    go false y z p q r = simp p (u p)
    go true true z p q r = simp (p, q) (v p q)
    go true false true p q r = simp (p, q, r) (w p q r)
    go true false false p q r = absurd (omega (arith, simp (p, q, r) at h))

-- a tag below 256 is its first byte
pub first_byte : (s : List ℕ) {tag start len : ℕ} {nested : Bool} → Some (header tag nested start len) ≡ header_of s → tag < 256 → tag ≡ get_or s 0 0
first_byte s {tag} e small =
    let p = (parts s e).1 in
    let a = get_or s 0 0 in
    tag_cases a (get_or s 1 0) (get_or s 2 0) (λ (size n : ℕ). n ≡ tag → tag ≡ a) (λ h q. sym q)
    (λ h b q. absurd (omega (arith, eqb-true (a % 32) 31 h, q))) (λ h b c q. absurd (omega (arith, eqb-true (a % 32) 31 h, q))) p.tagged p.number

-- a law on the size of a length and the length, size by size
pub length_cases : (a b c : ℕ) (P : ℕ → ℕ → Type 0) → (ltb a 0x80 ≡ true → P 1 a) → (a ≡ 0x81 → P 2 b) → (a ≡ 0x82 → P 3 (b * 256 + c))
    → 0 < length_size a → P (length_size a) (length_of a b c)
unfolding length_size length_of
length_cases a b c P u v w h = go (ltb a 0x80) (eqb a 0x81) (eqb a 0x82) refl refl refl
  where
    go : (x y z : Bool) → ltb a 0x80 ≡ x → eqb a 0x81 ≡ y → eqb a 0x82 ≡ z → P (length_size a) (length_of a b c)
    go true y z p q r = simp p (u p)
    go false true z p q r = simp (p, q) (v (eqb-true a 0x81 q))
    go false false true p q r = simp (p, q, r) (w (eqb-true a 0x82 r))
    go false false false p q r = absurd (omega (arith, simp (p, q, r) at h))

-- ---- what stands after a TLV

-- a list that begins with the bytes of a tag begins with that tag
pub tag_agree : (s s' : List ℕ) → 0 < of_three tag_size s → ((i : ℕ) → i < of_three tag_size s → get_or s' i 0 ≡ get_or s i 0)
    → (of_three tag_size s' ≡ of_three tag_size s) × (of_three tag_number s' ≡ of_three tag_number s)
unfolding tag_size tag_number
tag_agree s s' =
    tag_cases (get_or s 0 0) (get_or s 1 0) (get_or s 2 0)
    (λ k n. ((i : ℕ) → i < k → get_or s' i 0 ≡ get_or s i 0) → (of_three tag_size s' ≡ k) × (of_three tag_number s' ≡ n))
    (λ p same. simp (same 0 (omega arith), p) (refl, refl))
    (λ p q same. simp (same 0 (omega arith), same 1 (omega arith), p, q) (refl, refl))
    (λ p q r same. simp (same 0 (omega arith), same 1 (omega arith), same 2 (omega arith), p, q, r) (refl, refl))

-- the bytes of a length decide it
length_agree : (a b c b' c' : ℕ) → 0 < length_size a → (1 < length_size a → b' ≡ b) → (2 < length_size a → c' ≡ c) → length_of a b' c' ≡ length_of a b c
unfolding length_size length_of
length_agree a b c b' c' =
    length_cases a b c (λ k n. (1 < k → b' ≡ b) → (2 < k → c' ≡ c) → length_of a b' c' ≡ n)
    (λ p u v. simp p) (λ p u v. rw p (u (omega arith))) (λ p u v. rw (p, u (omega arith), v (omega arith)))

-- a list that begins with the bytes of a header, and is long enough, begins with that header
pub header_agree : (s s' : List ℕ) {tag start len : ℕ} {nested : Bool} → Some (header tag nested start len) ≡ header_of s
    → ((i : ℕ) → i < start → get_or s' i 0 ≡ get_or s i 0) → start + len ≤ length s' → header_of s' ≡ Some (header tag nested start len)
header_agree s s' {tag} {start} {len} {nested} e same fits =
    let t = of_three tag_size s in
    let l = length_size (get_or s t 0) in
    let at : t + l ≡ start = (parts s e).0 in
    let p : Parts s t l tag nested len = (parts s e).1 in
    let g = tag_agree s s' p.tagged (λ i h. same i (omega arith)) in
    let z : get_or s' t 0 ≡ get_or s t 0 = same t (omega arith) in
    rw (← at) (whole s' t l record {
      size = g.0;
      number = g.1 ∙ p.number;
      bit = rw (same 0 (omega arith)) p.bit;
      form = ap length_size z;
      count = rw z (length_agree (get_or s t 0) (get_or s (t + 1) 0) (get_or s (t + 2) 0) (get_or s' (t + 1) 0) (get_or s' (t + 2) 0) p.formed
          (λ h. same (t + 1) (omega arith)) (λ h. same (t + 2) (omega arith)) ∙ p.count);
      tagged = p.tagged;
      formed = p.formed;
      inside = omega arith;
    })

-- what stands after a whole TLV does not matter
pub header_more : (s t : List ℕ) {tag start len : ℕ} {nested : Bool} → Some (header tag nested start len) ≡ header_of s
    → header_of (s ++ t) ≡ Some (header tag nested start len)
header_more s t e =
    let h = header_inside s e in
    header_agree s (s ++ t) e (λ i k. get_or-append s t 0 i (omega arith)) (rw length-append (omega arith))

-- what an arm knows of a header that was read of a part: `x` is the variant's value
pub known : {h x : Option Header} {l m : List ℕ} → h ≡ x → h ≡ header_of l → l ≡ m → x ≡ header_of m
known p q r = sym p ∙ q ∙ ap header_of r

-- what `ok_or` gave, read back
pub some_of : {A B : Type 0} (x : Option A) (b : B) {a : A} → ok_or x b ≡ Ok a → Some a ≡ x
some_of (Some a) b e = grind arith
some_of None b e = grind arith

pub none_of : {A B : Type 0} (x : Option A) (b : B) {e : B} → ok_or x b ≡ Err e → x ≡ None
none_of (Some a) b e = grind arith
none_of None b e = refl

-- ---- one TLV with a tag, and nothing after it

-- a TLV that is kept is the one that was there, and has passed the tests
kept : (k : Bool) (x : Option Header) {tag start len : ℕ} {nested : Bool} → Some (header tag nested start len) ≡ cond k x None → (k ≡ true) × (Some (header tag nested start len) ≡ x)
kept true x e = (refl, e)
kept false x e = let h : ◌≡◌ {A = ℕ} 0 1 = cc in absurd (omega arith)

-- by the header at the front
only_from_lem : (h : Option Header) (wanted : ℕ) (s : List ℕ) {tag start len : ℕ} {nested : Bool} → Some (header tag nested start len) ≡ only_from h wanted s
    → (Some (header tag nested start len) ≡ h) × (tag ≡ wanted) × (start + len ≡ length s)
unfolding only_from
only_from_lem None wanted s e = let h : ◌≡◌ {A = ℕ} 0 1 = cc in absurd (omega arith)
only_from_lem (Some h) wanted s {tag} {start} {len} {nested} e =
    let p = kept (eqb h.tag wanted && eqb (h.start + h.len) (length s)) (Some h) e in
    let q = (and-eq-true_iff (eqb h.tag wanted) (eqb (h.start + h.len) (length s))).0 p.0 in
    let same : header tag nested start len ≡ h = cc in
    (p.1, ap (λ (x : Header). x.tag) same ∙ eqb-true h.tag wanted q.0, ap (λ (x : Header). x.start + x.len) same ∙ eqb-true (h.start + h.len) (length s) q.1)

-- it is the TLV at the ofThree, has the tag, and ends where the list ends
pub only_is : (wanted : ℕ) (s : List ℕ) {tag start len : ℕ} {nested : Bool} → Some (header tag nested start len) ≡ only_of wanted s
    → (Some (header tag nested start len) ≡ header_of s) × (tag ≡ wanted) × (start + len ≡ length s)
unfolding only_of
only_is wanted s e = only_from_lem (header_of s) wanted s e

-- a header's bytes and its length are few
pub header_small : (s : List ℕ) {tag start len : ℕ} {nested : Bool} → ((i : ℕ) → get_or s i 0 < 256) → Some (header tag nested start len) ≡ header_of s → (start < 8) × (len < 65536)
header_small s f e =
    let p = parts s e in
    let q = p.1 in
    let t = of_three tag_size s in
    let a : of_three tag_size s ≤ 3 = tag_cases (get_or s 0 0) (get_or s 1 0) (get_or s 2 0) (λ k n. k ≤ 3) (λ x. omega arith) (λ x y. omega arith) (λ x y z. omega arith) q.tagged in
    let b : (length_size (get_or s t 0) ≤ 3) × (length_of (get_or s t 0) (get_or s (t + 1) 0) (get_or s (t + 2) 0) < 65536) =
    length_cases (get_or s t 0) (get_or s (t + 1) 0) (get_or s (t + 2) 0) (λ k n. (k ≤ 3) × (n < 65536))
    (λ x. (omega arith, omega (arith, f t))) (λ x. (omega arith, omega (arith, f (t + 1)))) (λ x. (omega arith, omega (arith, f (t + 1), f (t + 2)))) q.formed in
    (omega (arith, p.0, a, b.0), omega (arith, q.count, b.1))
