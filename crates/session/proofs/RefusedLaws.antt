-- A refused call changes nothing: for every session and every buffer, where the number is not 0 the session and the whole buffer are those that came in. Of a preview it is said
-- in PreviewLaws.
-- On the dead session every call is refused, by 4.
-- Assumes nothing.
use mathlib.Core.Path.{◌≡◌, refl}
use mathlib.Core.List.{List}
use Prim.Native.Nat.{ℕ}
use borrow.Author.Tests.{ne_eqb}
use lib.ListN.{length}
use Rattle.session.specs.Ranges.{ranged_values, values_in_range, in_range}
use Rattle.session.specs.Operation.{dead, open_refusal, open_of, command_refusal, command_of, command_buffer, answer_refusal, answer_of, answer_buffer, verdict_refusal, verdict_of, stamp_refusal, stamp_answer, stamp_buffer, preview_refusal}
use Rattle.session.specs.declared.state.Session.{Session}

-- a refused opening gives the dead session
pub open_dead : (mode date : ℕ) (aid : List ℕ) → (open_refusal mode date aid ≡ 0 → ⊥) → open_of mode date aid ≡ (open_refusal mode date aid, dead)
unfolding open_of
open_dead mode date aid h = rw (ne_eqb (open_refusal mode date aid) 0 h)

pub command_unchanged : (s : Session) (out : List ℕ) → let k = command_refusal s (length out) in
    (k ≡ 0 → ⊥) → (command_of s (length out) ≡ (k, 0, s)) × (command_buffer s out ≡ out)
unfolding command_of command_buffer
command_unchanged s out h = let e = ne_eqb (command_refusal s (length out)) 0 h in (rw e, rw e)

pub answer_unchanged : (s : Session) (object bytes cancelled : List ℕ) → let k = answer_refusal s (length object) (length bytes) in
    (k ≡ 0 → ⊥) → (answer_of s object bytes cancelled ≡ (k, s)) × (answer_buffer s object bytes ≡ object)
unfolding answer_of answer_buffer
answer_unchanged s object bytes cancelled h = let e = ne_eqb (answer_refusal s (length object) (length bytes)) 0 h in (rw e, rw e)

pub verdict_unchanged : (s : Session) (kind yes_no : ℕ) (fascn : List ℕ) → let k = verdict_refusal s kind yes_no fascn in (k ≡ 0 → ⊥) → verdict_of s kind yes_no fascn ≡ (k, s)
unfolding verdict_of
verdict_unchanged s kind yes_no fascn h = rw (ne_eqb (verdict_refusal s kind yes_no fascn) 0 h)

pub stamp_unchanged : (s : Session) (out : List ℕ) → let k = stamp_refusal s (length out) in
    (k ≡ 0 → ⊥) → (stamp_answer s (length out) ≡ (k, s)) × (stamp_buffer s out ≡ out)
unfolding stamp_answer stamp_buffer
stamp_unchanged s out h = (refl, rw (ne_eqb (stamp_refusal s (length out)) 0 h))

-- ---- the dead session

-- every call on it is refused by 4
pub command_dead : (room : ℕ) → command_refusal dead room ≡ 4
unfolding command_refusal in_range values_in_range ranged_values
command_dead room = refl

pub answer_dead : (size n : ℕ) → answer_refusal dead size n ≡ 4
unfolding answer_refusal in_range values_in_range ranged_values
answer_dead size n = refl

pub verdict_dead : (kind yes_no : ℕ) (fascn : List ℕ) → verdict_refusal dead kind yes_no fascn ≡ 4
unfolding verdict_refusal in_range values_in_range ranged_values
verdict_dead kind yes_no fascn = refl

pub stamp_dead : (room : ℕ) → stamp_refusal dead room ≡ 4
unfolding stamp_refusal in_range values_in_range ranged_values
stamp_dead room = refl

pub preview_dead : (kind yes_no : ℕ) (fascn : List ℕ) (room : ℕ) → preview_refusal dead kind yes_no fascn room ≡ 4
unfolding preview_refusal in_range values_in_range ranged_values
preview_dead kind yes_no fascn room = refl
