-- Commands: how long each is, its last byte replaced, and what its answer says of the buffer; status words.
-- Assumes nothing.
use mathlib.Core.Path.{◌≡◌, refl, ap}
use mathlib.Core.Bool.{false, and-eq-true_iff}
use mathlib.Core.List.{List, [], ◌∷◌, ◌++◌}
use Prim.Native.Nat.{ℕ, zero, suc, ◌+◌, ◌-◌, ◌≤◌, ◌<◌}
use native.Mathlib.Omega.{arith}
use borrow.Author.Tests.{leb-true, not-false, lt-ltb, le-ltb, ne_eqb}
use lib.Dec.{leb}
use lib.ListN.{length, get_or, set, length-set, length-append}
use lib.Seq.{set-append_seam, get_or-set_other}
use Rattle.common.specs.Lists.{over_front, all, same_bytes}
use Rattle.card.specs.Object.{object_tag}
use Rattle.card.specs.Command.{with_last, select_beside, select_bytes, get_data_bytes, get_response_bytes, command_written, command_into, aid_least, aid_most, aid_refused, select_of, get_data_of, get_response_of, status_of}
use Rattle.card.specs.declared.command.Status.TheVariants.{Done, More, Again, Other}
use Rattle.card.specs.declared.object.Kind.{Kind}
use Rattle.card.specs.declared.object.Kind.TheVariants.{Signed, Unsigned, Fingers, Picture}

-- ---- the lengths of the commands

-- SELECT is the AID and six bytes more
pub select_length : (aid : List ℕ) → length (select_bytes aid) ≡ length aid + select_beside
unfolding select_bytes
select_length aid = rw length-append (omega arith)

-- a tag is three bytes
pub tag_length : (k : Kind) → length (object_tag k) ≡ 3
unfolding object_tag
tag_length Signed = refl
tag_length Unsigned = refl
tag_length Fingers = refl
tag_length Picture = refl

-- GET DATA is eleven bytes
pub get_data_length : (k : Kind) → length (get_data_bytes k) ≡ 11
unfolding get_data_bytes
get_data_length k = rw (length-append, tag_length)

-- GET RESPONSE is five bytes
pub get_response_length : (x : ℕ) → length (get_response_bytes x) ≡ 5
unfolding get_response_bytes
get_response_length x = refl

-- ---- the last byte

-- the last byte is replaced, and the bytes before it stay
pub with_last_lem : (c : List ℕ) (x last : ℕ) → with_last (c ++ (x ∷ [])) last ≡ c ++ (last ∷ [])
unfolding with_last
with_last_lem c x last =
    let n : length (c ++ (x ∷ [])) - 1 ≡ length c = rw length-append (omega arith) in
    rw n (set-append_seam c x [] last)

-- each byte before the last stays
pub before_last : (c : List ℕ) (last i : ℕ) → i + 1 < length c → get_or (with_last c last) i 0 ≡ get_or c i 0
unfolding with_last
before_last c last i h = get_or-set_other c (length c - 1) i last 0 (λ (e : i ≡ length c - 1). omega arith)

-- the last byte replaced twice
pub with_last_twice : (c : List ℕ) (a b : ℕ) → with_last (with_last c a) b ≡ with_last c b
unfolding with_last
with_last_twice c a b = rw length-set (twice c (length c - 1))
  where
    twice : (l : List ℕ) (i : ℕ) → set (set l i a) i b ≡ set l i b
    twice [] i = refl
    twice (x ∷ xs) zero = refl
    twice (x ∷ xs) (suc i) = ap (λ (r : List ℕ). x ∷ r) (twice xs i)

pub length_last : (c : List ℕ) (last : ℕ) → length (with_last c last) ≡ length c
unfolding with_last
length_last c last = length-set c (length c - 1) last

-- SELECT and GET DATA with another last byte
pub select_last : (aid : List ℕ) (last : ℕ) → with_last (select_bytes aid) last ≡ (0x00 ∷ 0xA4 ∷ 0x04 ∷ 0x00 ∷ []) ++ (length aid ∷ []) ++ aid ++ (last ∷ [])
unfolding select_bytes
select_last aid last = with_last_lem ((0x00 ∷ 0xA4 ∷ 0x04 ∷ 0x00 ∷ []) ++ (length aid ∷ []) ++ aid) 0x00 last

pub get_data_last : (k : Kind) (last : ℕ) → with_last (get_data_bytes k) last ≡ (0x00 ∷ 0xCB ∷ 0x3F ∷ 0xFF ∷ 0x05 ∷ 0x5C ∷ 0x03 ∷ []) ++ object_tag k ++ (last ∷ [])
unfolding get_data_bytes
get_data_last k last = with_last_lem ((0x00 ∷ 0xCB ∷ 0x3F ∷ 0xFF ∷ 0x05 ∷ 0x5C ∷ 0x03 ∷ []) ++ object_tag k) 0x00 last

-- with 00 they are as they were
pub select_first : (aid : List ℕ) → with_last (select_bytes aid) 0x00 ≡ select_bytes aid
unfolding select_bytes
select_first aid = select_last aid 0x00

pub get_data_first : (k : Kind) → with_last (get_data_bytes k) 0x00 ≡ get_data_bytes k
unfolding get_data_bytes
get_data_first k = get_data_last k 0x00

-- GET RESPONSE with its last byte replaced is GET RESPONSE with that byte
pub get_response_last : (second last : ℕ) → with_last (get_response_bytes second) last ≡ get_response_bytes last
unfolding get_response_bytes with_last
get_response_last second last = refl

-- ---- status words

-- two bytes that differ are not the same list
first_other : (a x : ℕ) → (a ≡ x → ⊥) → same_bytes (a ∷ []) (x ∷ []) ≡ false
unfolding same_bytes all
first_other a x f = rw (ne_eqb a x f)

-- what is not two bytes is another
pub status_not_two : (s : List ℕ) → (length s ≡ 2 → ⊥) → Other ≡ status_of s
unfolding status_of
status_not_two s h = rw (ne_eqb _ _ h)

-- two bytes, by their values: 90 00, 61 and a byte, 6C and a byte
pub status_done : (s : List ℕ) → 2 ≤ length s → length s < 3 → get_or s 0 0 ≡ 0x90 → get_or s 1 0 ≡ 0x00 → Done ≡ status_of s
unfolding status_of same_bytes all
status_done [] n m a b = absurd (omega arith)
status_done (x ∷ []) n m a b = absurd (omega arith)
status_done (x ∷ y ∷ []) n m a b = rw (a, b)
status_done (x ∷ y ∷ z ∷ s) n m a b = absurd (omega arith)

pub status_more : (s : List ℕ) → 2 ≤ length s → length s < 3 → get_or s 0 0 ≡ 0x61 → More (get_or s 1 0) ≡ status_of s
unfolding status_of same_bytes all
status_more [] n m a = absurd (omega arith)
status_more (x ∷ []) n m a = absurd (omega arith)
status_more (x ∷ y ∷ []) n m a = rw a
status_more (x ∷ y ∷ z ∷ s) n m a = absurd (omega arith)

pub status_again : (s : List ℕ) → 2 ≤ length s → length s < 3 → get_or s 0 0 ≡ 0x6C → Again (get_or s 1 0) ≡ status_of s
unfolding status_of same_bytes all
status_again [] n m a = absurd (omega arith)
status_again (x ∷ []) n m a = absurd (omega arith)
status_again (x ∷ y ∷ []) n m a = rw a
status_again (x ∷ y ∷ z ∷ s) n m a = absurd (omega arith)

-- 90 and another byte than 00, and any other first byte, are others
pub status_unlike : (s : List ℕ) → 2 ≤ length s → length s < 3 → get_or s 0 0 ≡ 0x90 → (get_or s 1 0 ≡ 0x00 → ⊥) → Other ≡ status_of s
unfolding status_of same_bytes all
status_unlike [] n m a b = absurd (omega arith)
status_unlike (x ∷ []) n m a b = absurd (omega arith)
status_unlike (x ∷ y ∷ []) n m a b = rw (a, ne_eqb y 0x00 b)
status_unlike (x ∷ y ∷ z ∷ s) n m a b = absurd (omega arith)

pub status_none : (s : List ℕ) → 2 ≤ length s → length s < 3 → (get_or s 0 0 ≡ 0x90 → ⊥) → (get_or s 0 0 ≡ 0x61 → ⊥) → (get_or s 0 0 ≡ 0x6C → ⊥) → Other ≡ status_of s
unfolding status_of same_bytes all
status_none [] n m a b d = absurd (omega arith)
status_none (x ∷ []) n m a b d = absurd (omega arith)
status_none (x ∷ y ∷ []) n m a b d = rw (ne_eqb x 0x90 a, ne_eqb x 0x61 b, ne_eqb x 0x6C d)
status_none (x ∷ y ∷ z ∷ s) n m a b d = absurd (omega arith)

-- a status word that is not 90 00 and begins with neither 61 nor 6C is another
pub status_other : (a b : ℕ) → same_bytes (a ∷ b ∷ []) (0x90 ∷ 0x00 ∷ []) ≡ false → (a ≡ 0x61 → ⊥) → (a ≡ 0x6C → ⊥) → status_of (a ∷ b ∷ []) ≡ Other
unfolding status_of
status_other a b e f g = rw (e, first_other a 0x61 f, first_other a 0x6C g)

-- ---- the answer

-- an AID that is not refused has no more than the most bytes
pub aid_most_lem : (aid : List ℕ) → aid_refused aid ≡ false → length aid ≤ aid_most
aid_most_lem aid e = leb-true (length aid) aid_most ((and-eq-true_iff (leb aid_least (length aid)) (leb (length aid) aid_most)).0 (not-false _ e)).1

-- a command that fits stands in front of the buffer
pub command_fits : (c out : List ℕ) {k : ℕ} {m : List ℕ} → length c ≤ length out → k ≡ length c → m ≡ over_front c out
    → ((0, k), m) ≡ command_into c out
unfolding command_written
command_fits c out h e f = rw (le-ltb _ _ h, e, f)

-- one that does not is refused
pub command_short : (c out : List ℕ) → length out < length c → ((6, 0), out) ≡ command_into c out
unfolding command_written
command_short c out h = rw (lt-ltb _ _ h)

-- a refused one leaves the buffer as it was
pub refused_same : (n : ℕ) (c out : List ℕ) → ((command_written n c out).0.0 ≡ 0 → ⊥) → (command_written n c out).1 ≡ out
unfolding command_written
refused_same n c out h = rw (ne_eqb n 0 (λ (e : n ≡ 0). h (rw e)))

-- the same of SELECT
pub select_refused : (aid out : List ℕ) (last : ℕ) → ((select_of aid last out).0.0 ≡ 0 → ⊥) → (select_of aid last out).1 ≡ out
unfolding select_of
select_refused aid out last h = refused_same _ (with_last (select_bytes aid) last) out h

-- the same of GET DATA
pub get_data_refused : (k : Kind) (last : ℕ) (out : List ℕ) → ((get_data_of k last out).0.0 ≡ 0 → ⊥) → (get_data_of k last out).1 ≡ out
unfolding get_data_of
get_data_refused k last out h = refused_same _ (with_last (get_data_bytes k) last) out h

-- the same of GET RESPONSE
pub get_response_refused : (x : ℕ) (out : List ℕ) → ((get_response_of x out).0.0 ≡ 0 → ⊥) → (get_response_of x out).1 ≡ out
unfolding get_response_of
get_response_refused x out h = refused_same _ (get_response_bytes x) out h
