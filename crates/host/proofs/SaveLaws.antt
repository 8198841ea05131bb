-- The image as the code stores it, segment after segment, and step 1's parts, one after another.
-- Assumes nothing.
use mathlib.Core.Path.{◌≡◌, sym, ap, ap₂, ◌∙◌}
use mathlib.Core.List.{List, [], ◌∷◌, ◌++◌, map, append-nil, append_assoc}
use Prim.Native.Nat.{ℕ, ◌+◌, ◌*◌, ◌≤◌, ◌<◌}
use native.Mathlib.Nat.{le_of_eq, zero-add}
use native.Mathlib.Omega.{arith}
use borrow.Author.Count.{below_more}
use lib.ListN.{length, get_or, take, length-append}
use lib.Seq.{take_all, length-take-le}
use Rattle.std.proofs.lemmas.List.{take_more, map-append}
use Rattle.common.specs.Lists.{concat, over_places, over_places_where}
use Rattle.common.proofs.ListsLaws.{over_first, over_none, length_over}
use Rattle.common.proofs.StoreLaws.{store_fits, front_all}
use Rattle.card.specs.Object.{empty}
use Rattle.card.specs.declared.object.Part.{Part}
use Rattle.session.specs.declared.state.Session.{Session}
use Rattle.host.specs.Image.{high_first, part_bytes, parts_bytes, small_bytes, save_of, PartFits}
use Rattle.host.proofs.NumberLaws.{over_on}
use Rattle.host.proofs.ImageLaws.{length_parts}

-- ---- segment after segment

-- the first n places of l have become s
pub record Filled (l k s : List ℕ) (n : ℕ) : Type 0 where
  pub is : k ≡ over_places l 0 s
  pub long : length s ≡ n

pub fill_first : (l s : List ℕ) {k : List ℕ} {n : ℕ} → k ≡ over_places_where l 0 s → length s ≡ n → n ≤ length l → Filled l k s n
fill_first l s e j h = record { is = e ∙ store_fits l s 0 (omega (arith, j, h)); long = j }

pub fill_on : {l k m s : List ℕ} {n : ℕ} (t : List ℕ) {j : ℕ} → Filled l k s n → m ≡ over_places k n t → length t ≡ j → Filled l m (s ++ t) (n + j)
fill_on {l} {s = s} t f e j = record { is = over_on l s t f.is e (sym f.long ∙ sym (zero-add (length s))) (omega arith); long = length-append s t ∙ ap₂ ◌+◌ f.long j }

pub fill_store : {l k m s : List ℕ} {n : ℕ} (t : List ℕ) {j : ℕ} → Filled l k s n → m ≡ over_places_where k n t → length t ≡ j → n + j ≤ length l → Filled l m (s ++ t) (n + j)
fill_store {l} {k} {s = s} {n} t {j} f e r h =
    let same : length k ≡ length l = ap length f.is ∙ length_over l s 0 (omega (arith, f.long, h)) in
    fill_on t f (e ∙ store_fits k t n (omega (arith, r, h, same))) r

pub filled_whole : {l k s : List ℕ} {n : ℕ} → Filled l k s n → length l ≡ n → k ≡ s
filled_whole {l} {s = s} f e = f.is ∙ over_first l s ∙ front_all s l (le_of_eq (e ∙ sym f.long))

-- the segments as they are stored are the image
concat_end : (ls : List (List ℕ)) (x : List ℕ) → concat (ls ++ (x ∷ [])) ≡ concat ls ++ x
concat_end [] x = append-nil x
concat_end (l ∷ ls) x = ap (λ (r : List ℕ). l ++ r) (concat_end ls x) ∙ sym (append_assoc l (concat ls) x)

pub saved : (s : Session) →
    small_bytes s ++ high_first 4 s.opening.date ++ high_first 4 s.card.expiry ++ high_first 8 s.opening.aid_len ++ high_first 8 s.progress.filled
    ++ s.opening.aid ++ s.outcomes ++ s.card.fascn ++ parts_bytes s.card.step1 ++ part_bytes s.card.step2
    ≡ save_of s
unfolding save_of parts_bytes
saved s = rw (concat_end (map part_bytes s.card.step1) (part_bytes s.card.step2)) (simp append_assoc)

-- ---- part after part

-- of the parts ps, the first i are stored in d from place at on, and each of them fits; m is the list then
pub record PartsSoFar (d : List ℕ) (at : ℕ) (ps : List Part) (i : ℕ) (m : List ℕ) : Type 0 where
  pub is : m ≡ over_places d at (parts_bytes (take i ps))
  pub fit : (k : ℕ) → k < i → PartFits (get_or ps k empty)

-- no part is stored yet
pub parts_none : (d : List ℕ) (at : ℕ) (ps : List Part) → PartsSoFar d at ps 0 d
unfolding parts_bytes
parts_none d at ps = record { is = sym (over_none d at); fit = λ k h. absurd (omega arith) }

-- one more
pub parts_more : {d m r : List ℕ} {at : ℕ} {ps : List Part} {i : ℕ} → PartsSoFar d at ps i m → i < length ps → at + (i + 1) * 8 ≤ length d
    → r ≡ over_places m (at + i * 8) (part_bytes (get_or ps i empty)) → PartFits (get_or ps i empty) → PartsSoFar d at ps (i + 1) r
unfolding parts_bytes
parts_more {d} {m} {r} {at} {ps} {i} p h room e f =
    let front = take i ps in
    let long : length (parts_bytes front) ≡ i * 8 = length_parts front ∙ ap (λ (n : ℕ). n * 8) (length-take-le i ps (omega arith)) in
    let next : parts_bytes front ++ part_bytes (get_or ps i empty) ≡ parts_bytes (take (i + 1) ps) =
    sym (rw (take_more ps i empty h, map-append part_bytes front (get_or ps i empty ∷ [])) (concat_end (map part_bytes front) (part_bytes (get_or ps i empty)))) in
    record {
      is = over_on d (parts_bytes front) (part_bytes (get_or ps i empty)) p.is e (ap (λ (n : ℕ). at + n) (sym long)) (omega arith) ∙ ap (over_places d at) next;
      fit = below_more _ _ p.fit f;
    }

-- all are stored
pub parts_end : {d m : List ℕ} {at : ℕ} {ps : List Part} {i : ℕ} → PartsSoFar d at ps i m → length ps ≤ i → m ≡ over_places d at (parts_bytes ps)
parts_end {d} {at = at} {ps} p h = p.is ∙ ap (λ (qs : List Part). over_places d at (parts_bytes qs)) (take_all _ ps h)
