-- An image has its session again, and bytes that are an image are the image of their session.
-- Assumes nothing.
use mathlib.Core.Path.{◌≡◌, refl, sym, ap, ap₂, ◌∙◌}
use mathlib.Core.Bool.{Bool, true, false, ◌&&◌, ◌||◌}
use mathlib.Core.List.{List, [], ◌∷◌, ◌++◌, map}
use Prim.Native.Nat.{ℕ, zero, suc, ◌+◌, ◌*◌, ◌≤◌, ◌<◌}
use native.Mathlib.Nat.{le_of_eq}
use native.Mathlib.Omega.{arith}
use lib.Dec.{eqb, leb}
use lib.ListN.{length, get_or, take, drop, replicate, length-append, length-drop, length-replicate, take-append-drop}
use lib.Seq.{take_at, drop_at, take_all, get_or_at, length-take-le}
use borrow.Author.Tests.{leb-true, eqb-true}
use Rattle.std.specs.Int.{from_bool}
use Rattle.common.specs.Lists.{concat, list_of, over_places_where}
use Rattle.common.proofs.ListsLaws.{list_of_is}
use Rattle.common.proofs.StoreLaws.{store_first, front_all}
use Rattle.common.proofs.TestLaws.{and_left, and_right}
use Rattle.card.specs.Object.{empty, most_fields}
use Rattle.card.specs.declared.object.Part.{Part}
use Rattle.session.specs.Operation.{dead}
use Rattle.session.specs.Promise.{Bytes}
use Rattle.session.proofs.BytesLaws.{part_bytes_lem}
use Rattle.session.specs.declared.state.Session.{Session}
use Rattle.session.specs.declared.state.Next.{Next}
use Rattle.session.specs.declared.state.Next.TheVariants.{Initial, GetResponse, InitialAgain, GetResponseAgain}
use Rattle.host.specs.Image.{high_first, from_high, part_size, part_bytes, parts_bytes, part_of_bytes, flag_byte, next_kind, next_byte, next_in, is_next, image_size, image_version, small_bytes, segments, segment_sizes, segments_in, cut_from, save_of, session_in, formed, is_image, load_of, PartFits, Fits}
use Rattle.host.proofs.NumberLaws.{length_high, high_again, bytes_again}
use Rattle.host.proofs.SegmentLaws.{Sized, none, more, total, length_joined, cut_again, join_again}

-- ---- parts

pub length_part : (p : Part) → length (part_bytes p) ≡ part_size
unfolding part_bytes
length_part p = length-append (high_first 4 p.start) (high_first 4 p.len) ∙ ap₂ ◌+◌ (length_high 4 p.start) (length_high 4 p.len)

pub length_parts : (ps : List Part) → length (parts_bytes ps) ≡ length ps * part_size
unfolding parts_bytes
length_parts [] = refl
length_parts (p ∷ ps) = omega (arith, length-append (part_bytes p) (parts_bytes ps), length_part p, length_parts ps)

part_again : (p : Part) → PartFits p → part_of_bytes (part_bytes p) ≡ p
unfolding part_of_bytes part_bytes
part_again p f =
    let a = high_first 4 p.start in
    let b = high_first 4 p.len in
    rw (take_at a b 4 (length_high 4 p.start), drop_at a b 4 (length_high 4 p.start), take_all 4 b (le_of_eq (length_high 4 p.len)), high_again 4 p.start f.start, high_again 4 p.len f.len)

parts_again : (ps : List Part) → ((i : ℕ) → i < length ps → PartFits (get_or ps i empty)) → map part_of_bytes (map part_bytes ps) ≡ ps
parts_again [] f = refl
parts_again (p ∷ ps) f = ap₂ ◌∷◌ (part_again p (f 0 (omega arith))) (parts_again ps (λ i h. f (suc i) (omega arith)))

length-map : {A B : Type 0} (g : A → B) (l : List A) → length (map g l) ≡ length l
length-map g [] = refl
length-map g (x ∷ l) = ap suc (length-map g l)

parts_sized : (ps : List Part) (q : Part) (n : ℕ) → length ps ≡ n → Sized (map part_bytes ps ++ (part_bytes q ∷ [])) (replicate (suc n) part_size)
parts_sized [] q zero e = more (length_part q) none
parts_sized [] q (suc n) e = absurd (omega arith)
parts_sized (p ∷ ps) q zero e = absurd (omega arith)
parts_sized (p ∷ ps) q (suc n) e = more (length_part p) (parts_sized ps q n (omega arith))

-- ---- values of one byte

-- a flag's byte as the kit has it
pub flag_from : (b : Bool) → from_bool b ≡ flag_byte b
flag_from true = refl
flag_from false = refl

flag_again : (b : Bool) → (eqb (flag_byte b) 1 ≡ b) × (leb (flag_byte b) 1 ≡ true)
flag_again true = (refl, refl)
flag_again false = (refl, refl)

next_again : (n : Next) → (next_in (next_kind n) (next_byte n) ≡ n) × (is_next (next_kind n) (next_byte n) ≡ true)
next_again Initial = (refl, refl)
next_again (GetResponse b) = (refl, refl)
next_again (InitialAgain b) = (refl, refl)
next_again (GetResponseAgain b) = (refl, refl)

-- ---- the session of an image

segments_sized : (s : Session) → Fits s → Sized (segments s) segment_sizes
segments_sized s f =
    more refl (more (length_high 4 _) (more (length_high 4 _) (more (length_high 8 _) (more (length_high 8 _) (more f.aid (more f.outcomes (more f.fascn (parts_sized s.card.step1 s.card.step2 most_fields f.step1.count))))))))

pub length_save : (s : Session) → Fits s → length (save_of s) ≡ image_size
unfolding save_of total
length_save s f = length_joined (segments_sized s f)

-- `load` of what was saved is the session, for every session whose values fit their types, out of range too
pub load_save : (s : Session) → Fits s → load_of (save_of s) ≡ s
unfolding load_of save_of is_image segments_in
load_save s f =
    let p = s.progress in
    let ps = map part_bytes s.card.step1 in
    let q = part_bytes s.card.step2 in
    let n : length ps ≡ most_fields = length-map part_bytes s.card.step1 ∙ f.step1.count in
    rw (
      cut_again (segments_sized s f),
      (flag_again p.outstanding).1,
      (next_again p.next).1,
      (flag_again p.outstanding).0,
      (next_again p.next).0,
      high_again 4 s.opening.date f.date,
      high_again 4 s.card.expiry f.expiry,
      high_again 8 s.opening.aid_len f.aid_length,
      high_again 8 p.filled f.filled,
      take_at ps (q ∷ []) most_fields n,
      get_or_at ps q [] [] most_fields n,
      parts_again s.card.step1 f.step1.each,
      part_again s.card.step2 f.step2,
    )

-- ---- bytes that are an image

length_cut : (b : List ℕ) (at n : ℕ) → at + n ≤ length b → length (take n (drop at b)) ≡ n
length_cut b at n h = length-take-le n (drop at b) (omega (arith, length-drop at b))

-- a number of a part of bytes
cut_bytes : (b : List ℕ) (at n : ℕ) → at + n ≤ length b → Bytes b → high_first n (from_high n (take n (drop at b))) ≡ take n (drop at b)
cut_bytes b at n h f = bytes_again n (take n (drop at b)) (length_cut b at n h) (part_bytes_lem n at b f)

join_two : (l : List ℕ) → length l ≡ 8 → take 4 l ++ take 4 (drop 4 l) ≡ l
join_two l e = ap (λ (x : List ℕ). take 4 l ++ x) (take_all 4 (drop 4 l) (omega (arith, length-drop 4 l))) ∙ take-append-drop 4 l

part_bytes_again : (l : List ℕ) → length l ≡ 8 → Bytes l → part_bytes (part_of_bytes l) ≡ l
unfolding part_bytes part_of_bytes
part_bytes_again l e f = rw (cut_bytes l 0 4 (omega arith) f, cut_bytes l 4 4 (omega arith) f) (join_two l e)

-- the byte of a flag, and the two of a next command
flag_same : (x : ℕ) → leb x 1 ≡ true → flag_byte (eqb x 1) ≡ x
flag_same zero h = refl
flag_same (suc zero) h = refl
flag_same (suc (suc x)) h = absurd (omega (arith, leb-true (suc (suc x)) 1 h))

next_same : (x y : ℕ) → is_next x y ≡ true → (next_kind (next_in x y) ≡ x) × (next_byte (next_in x y) ≡ y)
next_same zero y h = (refl, sym (eqb-true y 0 h))
next_same (suc zero) y h = (refl, refl)
next_same (suc (suc zero)) y h = (refl, refl)
next_same (suc (suc (suc zero))) y h = (refl, refl)
next_same (suc (suc (suc (suc x)))) y h = let k = leb-true (suc (suc (suc (suc x)))) 3 (and_left (leb (suc (suc (suc (suc x)))) 3) (leb 1 (suc (suc (suc (suc x)))) || eqb y 0) h) in absurd (omega (arith, k))

nine : (l : List ℕ) → length l ≡ 9
    → get_or l 0 0 ∷ get_or l 1 0 ∷ get_or l 2 0 ∷ get_or l 3 0 ∷ get_or l 4 0 ∷ get_or l 5 0 ∷ get_or l 6 0 ∷ get_or l 7 0 ∷ get_or l 8 0 ∷ [] ≡ l
unfolding list_of
nine l e = list_of_is 9 (λ i. get_or l i 0) l e (λ i h. refl)

small_same : (l : List ℕ) → length l ≡ 9 → formed (l ∷ []) ≡ true → small_bytes (session_in (l ∷ [])) ≡ l
small_same l e h =
    let rest = leb (get_or l 3 0) 1 && is_next (get_or l 4 0) (get_or l 5 0) in
    let a = and_left (eqb (get_or l 0 0) image_version) rest h in
    let b = and_right (eqb (get_or l 0 0) image_version) rest h in
    let n = next_same (get_or l 4 0) (get_or l 5 0) (and_right (leb (get_or l 3 0) 1) (is_next (get_or l 4 0) (get_or l 5 0)) b) in
    rw (flag_same (get_or l 3 0) (and_left (leb (get_or l 3 0) 1) (is_next (get_or l 4 0) (get_or l 5 0)) b), n.0, n.1)
    (ap (λ (v : ℕ). v ∷ get_or l 1 0 ∷ get_or l 2 0 ∷ get_or l 3 0 ∷ get_or l 4 0 ∷ get_or l 5 0 ∷ get_or l 6 0 ∷ get_or l 7 0 ∷ get_or l 8 0 ∷ []) (sym (eqb-true (get_or l 0 0) 1 a)) ∙ nine l e)

-- the segments of the session of an image are those of the bytes
segments_same : (b : List ℕ) → length b ≡ image_size → Bytes b → is_image b ≡ true → segments (session_in (segments_in b)) ≡ segments_in b
unfolding is_image segments_in cut_from
segments_same b e f h =
    let p : (at : ℕ) → at + 8 ≤ length b → part_bytes (part_of_bytes (take 8 (drop at b))) ≡ take 8 (drop at b) = λ at k. part_bytes_again (take 8 (drop at b)) (length_cut b at 8 k) (part_bytes_lem 8 at b f) in
    rw (
      small_same (take 9 (drop 0 b)) (length_cut b 0 9 (omega arith)) h,
      cut_bytes b 9 4 (omega arith) f,
      cut_bytes b 13 4 (omega arith) f,
      cut_bytes b 17 8 (omega arith) f,
      cut_bytes b 25 8 (omega arith) f,
      p 81 (omega arith),
      p 89 (omega arith),
      p 97 (omega arith),
      p 105 (omega arith),
      p 113 (omega arith),
      p 121 (omega arith),
      p 129 (omega arith),
      p 137 (omega arith),
      p 145 (omega arith),
      p 153 (omega arith),
    )

-- `save` of what was loaded is the bytes, where they are an image
pub save_load : (b : List ℕ) → length b ≡ image_size → Bytes b → is_image b ≡ true → save_of (load_of b) ≡ b
unfolding load_of save_of segments_in total
save_load b e f h =
    let loaded : load_of b ≡ session_in (segments_in b) = rw h in
    ap save_of loaded ∙ ap concat (segments_same b e f h) ∙ join_again segment_sizes b (sym e)

-- bytes that are no image have the dead session; all zeros are none
pub load_dead : (b : List ℕ) → is_image b ≡ false → load_of b ≡ dead
unfolding load_of
load_dead b h = rw h

pub load_zeros : load_of (replicate image_size 0) ≡ dead
unfolding load_of is_image segments_in cut_from
load_zeros = refl

-- ---- what is cut out

-- an array that a part of the bytes fills
pub array_in : (b : List ℕ) (at n : ℕ) {a p : List ℕ} → at + n ≤ length b → p ≡ take n (drop at b) → a ≡ over_places_where (replicate n 0) 0 p → a ≡ take n (drop at b)
array_in b at n {a} {p} h e f =
    let k : length p ≡ n = ap length e ∙ length_cut b at n h in
    let zeros : List ℕ = replicate n 0 in
    let room : length zeros ≡ n = length-replicate {A = ℕ} n 0 in
    f ∙ store_first zeros p (omega (arith, k, room)) ∙ front_all p zeros (omega (arith, k, room)) ∙ e
