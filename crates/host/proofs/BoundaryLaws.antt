-- What a call over an image leaves: the image has the session that the call gives, also where it is refused. Demand 3 at the boundary: which image comes from a history, and that every call on bytes
-- that are no image is refused by 4.
-- Assumes nothing.
use mathlib.Core.Path.{◌≡◌, refl, sym, ap, ap₂, ◌∙◌}
use mathlib.Core.Bool.{Bool, true, false, cond}
use mathlib.Core.List.{List}
use Prim.Native.Nat.{ℕ}
use borrow.Author.Tests.{eqb-true, eqb-false}
use lib.Dec.{eqb}
use lib.ListN.{length}
use Rattle.std.specs.Prelude.{Result, Ok, Err}
use Rattle.card.specs.Object.{empty}
use Rattle.common.specs.Refusal.{number_in, value_in}
use Rattle.common.proofs.TestLaws.{clash}
use Rattle.session.specs.Ranges.{ranged_values, values_in_range, in_range}
use Rattle.session.specs.Operation.{refusal_number, refusal_never_zero, dead, answer_refusal, answer_of, verdict_refusal, verdict_of, command_refusal, command_of, field_place, stamp_answer, preview_of}
use Rattle.session.specs.Promise.{Bytes, History, finish}
use Rattle.session.specs.declared.state.Refusal.{Refusal}
use Rattle.session.specs.declared.state.Session.{Session}
use Rattle.session.proofs.PreviewLaws.{two_calls_number}
use Rattle.session.proofs.PromiseLaws.{promise}
use Rattle.session.proofs.RefusedLaws.{command_dead, answer_dead, verdict_dead, stamp_dead, preview_dead}
use Rattle.host.specs.Image.{image_size, is_image, load_of, save_of}
use Rattle.host.specs.Call.{image_after, where_number, ImageOf}
use Rattle.host.proofs.ImageLaws.{load_dead, save_load}

-- ---- a refused call hands the session back

by_refusal : (b : Bool) (k : ℕ) (x s : Session) → ((cond {A = ℕ × Session} b (0, x) (k, s)).0 ≡ 0 → ⊥) → (cond {A = ℕ × Session} b (0, x) (k, s)).1 ≡ s
by_refusal true k x s h = absurd (h refl)
by_refusal false k x s h = refl

pub answer_same : (s : Session) (object bytes cancelled : List ℕ) → ((answer_of s object bytes cancelled).0 ≡ 0 → ⊥) → (answer_of s object bytes cancelled).1 ≡ s
unfolding answer_of
answer_same s object bytes cancelled h = by_refusal (eqb (answer_refusal s (length object) (length bytes)) 0) _ _ s h

pub verdict_same : (s : Session) (kind yes_no : ℕ) (fascn : List ℕ) → ((verdict_of s kind yes_no fascn).0 ≡ 0 → ⊥) → (verdict_of s kind yes_no fascn).1 ≡ s
unfolding verdict_of
verdict_same s kind yes_no fascn h = by_refusal (eqb (verdict_refusal s kind yes_no fascn) 0) _ _ s h

-- so does a command call, and its count is 0
pub command_same : (s : Session) (room : ℕ) → ((command_of s room).0 ≡ 0 → ⊥) → ((command_of s room).1 ≡ 0) × ((command_of s room).2 ≡ s)
unfolding command_of
command_same s room = by (eqb (command_refusal s room) 0) _ _
  where
    by : (b : Bool) (n : ℕ) (x : Session) → let r = cond {A = ℕ × ℕ × Session} b (0, n, x) (command_refusal s room, 0, s) in (r.0 ≡ 0 → ⊥) → (r.1 ≡ 0) × (r.2 ≡ s)
    by true n x h = absurd (h refl)
    by false n x h = (refl, refl)

-- the same of the three as one
pub command_refused : (s : Session) (room : ℕ) {n : ℕ} → n ≡ (command_of s room).0 → (n ≡ 0 → ⊥) → ◌≡◌ {A = ℕ × ℕ × Session} (n, 0, s) (command_of s room)
unfolding command_of
command_refused s room {n} e h = by (eqb (command_refusal s room) 0) _ _ e
  where
    by : (b : Bool) (m : ℕ) (x : Session) → let r = cond {A = ℕ × ℕ × Session} b (0, m, x) (command_refusal s room, 0, s) in n ≡ r.0 → ◌≡◌ {A = ℕ × ℕ × Session} (n, 0, s) r
    by true m x e = absurd (h e)
    by false m x e = ap (λ (k : ℕ). (k, 0, s)) e

-- ---- what a command call leaves

-- its count, and its number, its count and its session as one
pub command_kept : (b : List ℕ) (room old : ℕ) (r : Result ℕ Refusal) (t : Session) {n m : ℕ} {c : List ℕ}
    → ◌≡◌ {A = ℕ × ℕ × Session} (number_in refusal_number r, value_in 0 r, t) (command_of (load_of b) room) → n ≡ number_in refusal_number r → m ≡ value_in old r
    → c ≡ image_after b (n, t) → (n ≡ 0 → load_of c ≡ t)
    → (m ≡ where_number 0 n (command_of (load_of b) room).1 old) × ◌≡◌ {A = ℕ × ℕ × Session} (n, where_number 0 n m 0, load_of c) (command_of (load_of b) room)
command_kept b room old (Ok v) t e f g left again = (rw f (g ∙ ap (λ (y : ℕ × ℕ × Session). y.1) e), rw (f, again f, g) e)
command_kept b room old (Err d) t {n} {m} {c} e f g left again =
    let not : eqb n 0 ≡ false = rw f (refusal_never_zero d) in
    let same : c ≡ b = left ∙ rw not in
    (rw not g, rw (not, same) (command_refused (load_of b) room (f ∙ ap (λ (y : ℕ × ℕ × Session). y.0) e) (eqb-false n 0 not)))

-- ---- a stamp call hands the session back

pub stamp_given : (s : Session) (room : ℕ) {n : ℕ} → n ≡ (stamp_answer s room).0 → (n, s) ≡ stamp_answer s room
unfolding stamp_answer
stamp_given s room e = ap (λ (k : ℕ). (k, s)) e

-- ---- what is left

-- the number, the image that is left, and that it has the session that the call gives
pub kept : (b : List ℕ) (x : ℕ × Session) (s : Session) {k n : ℕ} {c : List ℕ} → (k, s) ≡ x → n ≡ k → c ≡ image_after b (n, s) → (n ≡ 0 → load_of c ≡ s)
    → ((x.0 ≡ 0 → ⊥) → x.1 ≡ load_of b) → (n ≡ x.0) × (c ≡ image_after b x) × ((n, load_of c) ≡ x)
kept b x s {k} {n} {c} e f g again same =
    let whole : (n, s) ≡ x = ap (λ (j : ℕ). (j, s)) f ∙ e in
    let number : n ≡ x.0 = ap (λ (y : ℕ × Session). y.0) whole in
    let left : c ≡ image_after b x = g ∙ ap (image_after b) whole in
    (number, left, ap₂ (λ (k : ℕ) (s : Session). (k, s)) number (by (eqb x.0 0) refl number left))
  where
    by : (t : Bool) → eqb x.0 0 ≡ t → n ≡ x.0 → c ≡ image_after b x → load_of c ≡ x.1
    by true h number left = again (number ∙ eqb-true x.0 0 h) ∙ ap (λ (y : ℕ × Session). y.1) e
    by false h number left = let d : c ≡ b = left ∙ rw h in ap load_of d ∙ sym (same (eqb-false x.0 0 h))

-- a count that is written where the call is accepted, and is 0 where it is not
pub counted : (n m old : ℕ) {k : ℕ} → k ≡ where_number 0 n m old → ((n ≡ 0 → ⊥) → m ≡ 0) → where_number 0 n k 0 ≡ m
counted n m old {k} e z = by (eqb n 0) refl
  where
    by : (t : Bool) → eqb n 0 ≡ t → where_number 0 n k 0 ≡ m
    by true h = rw h (e ∙ rw h)
    by false h = rw h (sym (z (eqb-false n 0 h)))

-- ---- an image that comes from a history is the image of its session, byte for byte

no_dead : in_range dead ≡ false
unfolding in_range values_in_range ranged_values
no_dead = refl

pub image_is : (h : History) (b : List ℕ) → length b ≡ image_size → Bytes b → ImageOf h b → b ≡ save_of (finish h).session
image_is h b e f o = by (is_image b) refl
  where
    by : (t : Bool) → is_image b ≡ t → b ≡ save_of (finish h).session
    by true i = sym (save_load b e f i) ∙ ap save_of o
    by false i = clash (sym no_dead ∙ ap in_range (sym (load_dead b i) ∙ o) ∙ (promise h).in_range)

-- ---- bytes that are no image: every call is refused by 4, and the place of a field is empty

module _ (b : List ℕ) (h : is_image b ≡ false) where
  pub command_no_image : (room : ℕ) → (command_of (load_of b) room).0 ≡ 4
  unfolding command_of
  command_no_image room = rw (load_dead b h, command_dead room)

  pub answer_no_image : (object bytes cancelled : List ℕ) → (answer_of (load_of b) object bytes cancelled).0 ≡ 4
  unfolding answer_of
  answer_no_image object bytes cancelled = rw (load_dead b h, answer_dead (length object) (length bytes))

  pub verdict_no_image : (kind yes_no : ℕ) (fascn : List ℕ) → (verdict_of (load_of b) kind yes_no fascn).0 ≡ 4
  unfolding verdict_of
  verdict_no_image kind yes_no fascn = rw (load_dead b h, verdict_dead kind yes_no fascn)

  pub stamp_no_image : (room : ℕ) → (stamp_answer (load_of b) room).0 ≡ 4
  unfolding stamp_answer
  stamp_no_image room = rw (load_dead b h, stamp_dead room)

  pub preview_no_image : (kind yes_no : ℕ) (fascn out : List ℕ) → (preview_of (load_of b) kind yes_no fascn out).0 ≡ 4
  preview_no_image kind yes_no fascn out = rw (load_dead b h) (two_calls_number dead kind yes_no fascn out ∙ preview_dead kind yes_no fascn (length out))

  pub field_no_image : (size tag : ℕ) → field_place (load_of b) size tag ≡ empty
  unfolding field_place
  field_no_image size tag = rw (load_dead b h, no_dead)
