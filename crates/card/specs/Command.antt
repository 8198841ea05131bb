-- Commands (document 01, section Commands), a command sent again with another last byte (document 02, request 1), and
-- the status words of answers.
-- Assumes nothing.
use mathlib.Core.Path.{refl}
use Rattle.std.specs.Prelude.{◌≡◌, Bool, false, cond, not, ◌&&◌, List, [], ◌∷◌, ◌++◌, ℕ, ◌+◌, ◌-◌, eqb, ltb, leb, length, get_or, set, take, Result}
use Rattle.common.specs.Lists.{over_front, same_bytes}
use Rattle.common.specs.Refusal.{refusal_of, answer_in}
use Rattle.card.specs.Object.{object_tag}
use Rattle.card.specs.declared.object.Kind.{Kind}
use Rattle.card.specs.declared.command.CommandError.{CommandError}
use Rattle.card.specs.declared.command.CommandError.TheVariants.{WrongAid, ShortBuffer}
use Rattle.card.specs.declared.command.Status.{Status}
use Rattle.card.specs.declared.command.Status.TheVariants.{Done, More, Again, Other}

-- ---- the bytes of a command

-- SELECT: 00 A4 04 00, AID length, AID, 00.
unfoldable pub select_bytes : List ℕ → List ℕ
select_bytes aid = (0x00 ∷ 0xA4 ∷ 0x04 ∷ 0x00 ∷ []) ++ (length aid ∷ []) ++ aid ++ (0x00 ∷ [])

-- GET DATA: 00 CB 3F FF 05 5C 03, three tag bytes, 00.
unfoldable pub get_data_bytes : Kind → List ℕ
get_data_bytes k = (0x00 ∷ 0xCB ∷ 0x3F ∷ 0xFF ∷ 0x05 ∷ 0x5C ∷ 0x03 ∷ []) ++ object_tag k ++ (0x00 ∷ [])

-- GET RESPONSE: 00 C0 00 00, then the second status byte of the answer just taken.
unfoldable pub get_response_bytes : ℕ → List ℕ
get_response_bytes second = (0x00 ∷ 0xC0 ∷ 0x00 ∷ 0x00 ∷ []) ++ (second ∷ [])

-- "the same one with its last byte replaced by the second status byte", whichever command it is. In SELECT and GET DATA
-- the last byte is 00 until then.
unfoldable pub with_last : List ℕ → ℕ → List ℕ
with_last c last = set c (length c - 1) last

-- ---- writing it

-- What a command gives: number, count of bytes, and the buffer then. A refused one (number n is not 0) writes nothing.
unfoldable pub command_written : ℕ → List ℕ → List ℕ → (ℕ × ℕ) × List ℕ
command_written n c out = cond (eqb n 0) ((0, length c), over_front c out) ((n, 0), out)

-- Open's condition 3, "AID not 5–16 bytes": the least and the most that an AID has, and whether so many are an AID's.
abbrev pub aid_least : ℕ
aid_least = 5

abbrev pub aid_most : ℕ
aid_most = 16

abbrev pub good_aid : ℕ → Bool
good_aid n = leb aid_least n && leb n aid_most

-- The bytes of SELECT beside its AID, and the most that a command has: SELECT with the longest AID.
abbrev pub select_beside : ℕ
select_beside = 6

abbrev pub command_most : ℕ
command_most = aid_most + select_beside

abbrev pub aid_refused : List ℕ → Bool
aid_refused aid = not (good_aid (length aid))

-- Command's condition 6, "buffer shorter than the command".
abbrev pub too_short : List ℕ → List ℕ → Bool
too_short out c = ltb (length out) (length c)

-- A command with no other condition.
abbrev pub command_into : List ℕ → List ℕ → (ℕ × ℕ) × List ℕ
command_into c out = command_written (refusal_of ((6, too_short out c) ∷ [])) c out

-- SELECT and GET DATA with a last byte: 00, or the one that a card put in its place.
unfoldable pub select_of : List ℕ → ℕ → List ℕ → (ℕ × ℕ) × List ℕ
select_of aid last out =
    let c = with_last (select_bytes aid) last in
    command_written (refusal_of ((3, aid_refused aid) ∷ (6, too_short out c) ∷ [])) c out

unfoldable pub get_data_of : Kind → ℕ → List ℕ → (ℕ × ℕ) × List ℕ
get_data_of k last out = command_into (with_last (get_data_bytes k) last) out

unfoldable pub get_response_of : ℕ → List ℕ → (ℕ × ℕ) × List ℕ
get_response_of second out = command_into (get_response_bytes second) out

-- The answer of the code: document 01's number of each error, which is never 0; and the number of an answer with the
-- count beside it, 0 where the command is refused.
abbrev pub command_number : CommandError → ℕ
command_number WrongAid = 3
command_number ShortBuffer = 6

pub command_never_zero : (e : CommandError) → eqb (command_number e) 0 ≡ false
command_never_zero WrongAid = refl
command_never_zero ShortBuffer = refl

abbrev pub command_answer : Result ℕ CommandError → ℕ × ℕ
command_answer r = answer_in command_number 0 r

-- ---- status words

-- 90 00; 61 with any second byte; 6C with any second byte, "send that again with this Le" (document 02, request 1); any
-- other.
unfoldable pub status_of : List ℕ → Status
status_of s =
    let starts_with : ℕ → Bool = λ first. same_bytes (take 1 s) (first ∷ []) in
    cond (not (eqb (length s) 2)) Other
    (cond (same_bytes s (0x90 ∷ 0x00 ∷ [])) Done
    (cond (starts_with 0x61) (More (get_or s 1 0)) (cond (starts_with 0x6C) (Again (get_or s 1 0)) Other)))
