-- The next command: which of crate card's commands it is, and what a command call makes of its answer.
-- Assumes nothing.
use mathlib.Core.Path.{◌≡◌, refl, sym, ap, ◌∙◌}
use mathlib.Core.Bool.{Bool, true, false, cond}
use mathlib.Core.List.{List}
use Prim.Native.Nat.{ℕ, ◌≤◌, ◌<◌}
use native.Mathlib.Omega.{arith}
use borrow.Author.Tests.{le-leb, ne_eqb, eqb-false}
use lib.Dec.{eqb}
use lib.ListN.{length, take}
use lib.Seq.{length-take-le}
use Rattle.common.specs.Lists.{over_front}
use Rattle.card.specs.Command.{aid_least, aid_most, aid_refused, command_most, too_short, select_bytes, get_data_bytes, with_last, command_written, command_into, select_of, get_data_of, get_response_of, command_number}
use Rattle.card.proofs.CommandLaws.{select_length, get_data_length, get_response_length, length_last, aid_most_lem, select_first, get_data_first, get_response_last}
use Rattle.card.specs.declared.object.Kind.{Kind}
use Rattle.card.specs.declared.command.CommandError.{CommandError}
use Rattle.card.specs.declared.command.CommandError.TheVariants.{WrongAid, ShortBuffer}
use Rattle.session.specs.Tables.{kind_at, NextCommand, command_bytes}
use Rattle.session.specs.Condition.{nothing_to_send}
use Rattle.session.specs.Ranges.{in_range, out_of_range}
use Rattle.session.specs.Operation.{initial_in, command_in, command_refusal, command_of, command_buffer, progress_sending, with_session_progress}
use Rattle.session.specs.declared.state.Session.{Session}
use Rattle.session.specs.declared.state.Next.TheVariants.{Initial, GetResponse, InitialAgain, GetResponseAgain}
use Rattle.session.proofs.RangesLaws.{aid_in_range}

-- ---- the command

-- a command has more than four bytes, and with an AID that is not refused at most 22
pub command_length : (mode : ℕ) (aid : List ℕ) (step : ℕ) (c : NextCommand) → (4 < length (command_bytes mode aid step c)) × (aid_refused aid ≡ false → length (command_bytes mode aid step c) ≤ command_most)
unfolding command_bytes
command_length mode aid step NextCommand.of_step = by (eqb step 0)
  where
    by : (b : Bool) → (4 < length (cond b (select_bytes aid) (get_data_bytes (kind_at mode step)))) × (aid_refused aid ≡ false → length (cond b (select_bytes aid) (get_data_bytes (kind_at mode step))) ≤ command_most)
    by true = (omega (arith, select_length aid), λ e. omega (arith, select_length aid, aid_most_lem aid e))
    by false = (omega (arith, get_data_length (kind_at mode step)), λ e. omega (arith, get_data_length (kind_at mode step)))
command_length mode aid step (NextCommand.get_response second) = (omega (arith, get_response_length second), λ e. omega (arith, get_response_length second))
command_length mode aid step (NextCommand.again c last) = rw length_last (command_length mode aid step c)

-- the AID of a session in range is not refused
aid_fits : (s : Session) → in_range s ≡ true → length s.opening.aid ≡ aid_most → aid_refused (take s.opening.aid_len s.opening.aid) ≡ false
aid_fits s r l =
    let n = s.opening.aid_len in
    let h = aid_in_range s r in
    rw (length-take-le n s.opening.aid (omega (arith, l, h.1)), le-leb aid_least n h.0, le-leb n aid_most h.1)

-- the step's command is SELECT
pub select_written : (s : Session) (last : ℕ) (out : List ℕ) → in_range s ≡ true → length s.opening.aid ≡ aid_most → s.progress.step ≡ 0
    → select_of (take s.opening.aid_len s.opening.aid) last out ≡ command_into (with_last (initial_in s) last) out
unfolding select_of initial_in command_bytes
select_written s last out r l f = rw (f, aid_fits s r l)

-- or GET DATA
pub get_data_written : (s : Session) (last : ℕ) (out : List ℕ) → (s.progress.step ≡ 0 → ⊥)
    → get_data_of (kind_at s.opening.mode s.progress.step) last out ≡ command_into (with_last (initial_in s) last) out
unfolding get_data_of initial_in command_bytes
get_data_written s last out f = rw (ne_eqb _ _ f)

-- its last byte is 00
initial_first : (s : Session) → with_last (initial_in s) 0x00 ≡ initial_in s
unfolding initial_in command_bytes
initial_first s = go (eqb s.progress.step 0)
  where
    aid : List ℕ
    aid = take s.opening.aid_len s.opening.aid

    kind : Kind
    kind = kind_at s.opening.mode s.progress.step

    go : (b : Bool) → with_last (cond b (select_bytes aid) (get_data_bytes kind)) 0x00 ≡ cond b (select_bytes aid) (get_data_bytes kind)
    go true = select_first aid
    go false = get_data_first kind

-- the next command is the step's, GET RESPONSE, or one of the two again
pub initial_next : (s : Session) (out : List ℕ) → s.progress.next ≡ Initial → command_into (with_last (initial_in s) 0x00) out ≡ command_into (command_in s) out
unfolding initial_in command_in
initial_next s out e = rw (initial_first s, e)

pub get_response_next : (s : Session) (out : List ℕ) {second : ℕ} → s.progress.next ≡ GetResponse second → get_response_of second out ≡ command_into (command_in s) out
unfolding get_response_of command_in command_bytes
get_response_next s out e = rw (e)

pub initial_again_next : (s : Session) (out : List ℕ) {last : ℕ} → s.progress.next ≡ InitialAgain last → command_into (with_last (initial_in s) last) out ≡ command_into (command_in s) out
unfolding initial_in command_in command_bytes
initial_again_next s out e = rw (e)

pub get_response_again_next : (s : Session) (out : List ℕ) {last : ℕ} → s.progress.next ≡ GetResponseAgain last → get_response_of last out ≡ command_into (command_in s) out
unfolding get_response_of command_in command_bytes
get_response_again_next s out e = rw (e, get_response_last)

-- ---- the call

-- what the call makes of the number and the count, by whether the buffer is too short
by_room : (b : Bool) (s x : Session) (bytes out m : List ℕ) {n j : ℕ} → ((n, j), m) ≡ command_written (cond b 6 0) bytes out
    → (◌≡◌ {A = ℕ × ℕ × Session} (cond (eqb n 0) (0, j, x) (n, 0, s)) (cond (eqb (cond b 6 0) 0) (0, length bytes, x) (cond b 6 0, 0, s)))
    × (m ≡ cond (eqb (cond b 6 0) 0) (over_front bytes out) out)
unfolding command_written
by_room true s x bytes out m e = (rw (ap (λ (p : (ℕ × ℕ) × List ℕ). p.0.0) e), ap (λ (p : (ℕ × ℕ) × List ℕ). p.1) e)
by_room false s x bytes out m e = (rw (ap (λ (p : (ℕ × ℕ) × List ℕ). p.0.0) e, ap (λ (p : (ℕ × ℕ) × List ℕ). p.0.1) e), ap (λ (p : (ℕ × ℕ) × List ℕ). p.1) e)

-- the session is out of range
pub command_out_of_range : (s : Session) (out : List ℕ) → out_of_range s ≡ true → ((4, 0, s) ≡ command_of s (length out)) × (out ≡ command_buffer s out)
unfolding command_of command_buffer command_refusal
command_out_of_range s out a = (rw a, rw a)

-- there is nothing to send
pub command_none : (s : Session) (out : List ℕ) → out_of_range s ≡ false → nothing_to_send s.progress.step s.progress.cause s.progress.outstanding ≡ true
    → ((5, 0, s) ≡ command_of s (length out)) × (out ≡ command_buffer s out)
unfolding command_of command_buffer command_refusal
command_none s out a b = (rw (a, b), rw (a, b))

-- the command was written, or the buffer is too short
command_made : (s : Session) (out m : List ℕ) {n j : ℕ} → out_of_range s ≡ false
    → nothing_to_send s.progress.step s.progress.cause s.progress.outstanding ≡ false
    → ((n, j), m) ≡ command_into (command_in s) out
    → (◌≡◌ {A = ℕ × ℕ × Session} (cond (eqb n 0) (0, j, with_session_progress s (progress_sending s.progress)) (n, 0, s)) (command_of s (length out))) × (m ≡ command_buffer s out)
unfolding command_of command_buffer command_refusal
command_made s out m a b e =
    rw (a, b) (by_room (too_short out (command_in s)) s (with_session_progress s (progress_sending s.progress)) (command_in s) out m e)

pub command_sent : (s : Session) (out m : List ℕ) {j : ℕ} → out_of_range s ≡ false
    → nothing_to_send s.progress.step s.progress.cause s.progress.outstanding ≡ false
    → ((0, j), m) ≡ command_into (command_in s) out
    → ((0, j, with_session_progress s (progress_sending s.progress)) ≡ command_of s (length out)) × (m ≡ command_buffer s out)
command_sent s out m a b e = command_made s out m a b e

pub command_not_sent : (s : Session) (out m : List ℕ) (d : CommandError) → out_of_range s ≡ false
    → nothing_to_send s.progress.step s.progress.cause s.progress.outstanding ≡ false
    → ((command_number d, 0), m) ≡ command_into (command_in s) out
    → ((command_number d, 0, s) ≡ command_of s (length out)) × (m ≡ command_buffer s out)
command_not_sent s out m WrongAid a b e = command_made s out m a b e
command_not_sent s out m ShortBuffer a b e = command_made s out m a b e

-- what is said of the number and the count settles the session
by_number : (b : Bool) (k m : ℕ) (x s : Session) {n j : ℕ} → eqb k 0 ≡ b → n ≡ (cond {A = ℕ × ℕ × Session} b (0, m, x) (k, 0, s)).0 → j ≡ (cond {A = ℕ × ℕ × Session} b (0, m, x) (k, 0, s)).1
    → (n ≡ 0 → ◌≡◌ {A = ℕ × ℕ × Session} (n, j, x) (cond b (0, m, x) (k, 0, s))) × ((n ≡ 0 → ⊥) → ◌≡◌ {A = ℕ × ℕ × Session} (n, j, s) (cond b (0, m, x) (k, 0, s)))
by_number true k m x s p e f = (λ z. rw (e, f), λ g. absurd (g e))
by_number false k m x s p e f = (λ z. absurd (eqb-false k 0 p (sym e ∙ z)), λ g. rw (e, f))

pub command_accepted : (s : Session) (room : ℕ) {j : ℕ} → 0 ≡ (command_of s room).0 → j ≡ (command_of s room).1 → (0, j, with_session_progress s (progress_sending s.progress)) ≡ command_of s room
unfolding command_of
command_accepted s room e f = (by_number (eqb (command_refusal s room) 0) (command_refusal s room) (length (command_in s)) (with_session_progress s (progress_sending s.progress)) s refl e f).0 refl

pub command_declined : (s : Session) (room : ℕ) {k j : ℕ} → (k ≡ 0 → ⊥) → k ≡ (command_of s room).0 → j ≡ (command_of s room).1 → (k, j, s) ≡ command_of s room
unfolding command_of
command_declined s room g e f = (by_number (eqb (command_refusal s room) 0) (command_refusal s room) (length (command_in s)) (with_session_progress s (progress_sending s.progress)) s refl e f).1 g
