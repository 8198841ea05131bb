-- The command call: the session's command is the reading's, it is refused by the reading's number, and what holds goes on to hold.
-- Assumes nothing.
use mathlib.Core.Path.{◌≡◌, refl}
use mathlib.Core.Bool.{Bool, true, false, cond, ◌&&◌, ◌||◌}
use mathlib.Core.List.{List}
use Prim.Native.Nat.{ℕ, ◌≤◌}
use native.Mathlib.Omega.{arith}
use borrow.Author.Tests.{leb-true, le-leb, eqb-false}
use lib.Dec.{eqb, leb}
use lib.ListN.{length, take, drop, replicate}
use lib.Seq.{take-append_seam}
use Rattle.card.specs.Command.{aid_most}
use Rattle.common.specs.Lists.{over_front}
use Rattle.session.specs.Tables.{ends}
use Rattle.session.specs.Condition.{nothing_to_send, command_conditions}
use Rattle.session.specs.Reading.{Progress, Reading, with_progress, next_command, command_refused, sending}
use Rattle.session.specs.Ranges.{step_in_range, cause_in_range}
use Rattle.session.specs.Operation.{command_in, command_refusal, command_of, command_buffer}
use Rattle.common.proofs.TestLaws.{and_left, and_both, or_left, or_right}
use Rattle.common.proofs.ConditionLaws.{none_fit}
use Rattle.session.proofs.Invariant.{next_bytes, session_of, GoodProgress, Invariant}
use Rattle.session.proofs.InRangeLaws.{in_range_lem}

-- the AID is what was given, without the zeros after it
aid_kept : (aid : List ℕ) → take (length aid) (over_front aid (replicate aid_most 0)) ≡ aid
unfolding over_front
aid_kept aid = take-append_seam aid (drop (length aid) (replicate aid_most 0))

pub command_is : (r : Reading) → command_in (session_of r) ≡ next_command r
unfolding command_in
command_is r = rw (aid_kept r.opening.aid) (next_bytes r.opening.mode r.opening.aid r.progress.step r.progress.next)

pub command_number_lem : (r : Reading) (m : List ℕ) (room : ℕ) → Invariant r m → command_refusal (session_of r) room ≡ command_refused r room
unfolding command_refusal command_refused
command_number_lem r m room i = rw (in_range_lem r m i, command_is r)

-- what the call gives, and what it leaves in the buffer
pub command_gives : (r : Reading) (m : List ℕ) (room : ℕ) → Invariant r m
    → command_of (session_of r) room ≡ cond (eqb (command_refused r room) 0) (0, length (next_command r), session_of (with_progress r (sending r.progress))) (command_refused r room, 0, session_of r)
unfolding command_of
command_gives r m room i = rw (command_number_lem r m room i, command_is r)

pub command_leaves : (r : Reading) (m out : List ℕ) → Invariant r m → command_buffer (session_of r) out ≡ cond (eqb (command_refused r (length out)) 0) (over_front (next_command r) out) out
unfolding command_buffer
command_leaves r m out i = rw (command_number_lem r m (length out) i, command_is r)

-- where something can be sent, the step is 0 to 2 and there is no cause
can_send : (mode step cause : ℕ) (outstanding : Bool) → step_in_range mode step ≡ true → cause_in_range cause ≡ true → nothing_to_send step cause outstanding ≡ false
    → leb step 2 && eqb cause 0 ≡ true
can_send mode step cause outstanding s c e =
    let e1 = or_left (eqb step 3 || ends cause) outstanding e in
    let n3 = eqb-false step 3 (or_left (eqb step 3) (ends cause) e1) in
    let l3 : step ≤ 3 = leb-true step 3 (and_left (leb step 3) _ s) in
    and_both (le-leb step 2 (omega arith)) (one_of (eqb cause 0) (ends cause) c (or_right (eqb step 3) (ends cause) e1))
  where
    one_of : (a b : Bool) → a || b ≡ true → b ≡ false → a ≡ true
    one_of true b p q = refl
    one_of false b p q = rw q at p

sending_progress : (mode : ℕ) (c : Progress) → GoodProgress mode c → nothing_to_send c.step c.cause c.outstanding ≡ false → GoodProgress mode (sending c)
sending_progress mode c s e =
    record { step = s.step; filled = s.filled; cause = s.cause; outstanding = can_send mode c.step c.cause c.outstanding s.step s.cause e; no_cause = s.no_cause; shown1 = s.shown1; shown2 = s.shown2; bytes = s.bytes }

pub on_command : (r : Reading) (m : List ℕ) (room : ℕ) → Invariant r m → command_refused r room ≡ 0 → Invariant (with_progress r (sending r.progress)) m
unfolding command_refused
on_command r m room i e =
    let c = r.progress in
    let free = (none_fit (command_conditions c.step c.cause c.outstanding room (length (next_command r))) refl e).0 in
    record { figures = i.figures; opening = i.opening; progress_good = sending_progress r.opening.mode c i.progress_good free; held = i.held; one = i.one; two = i.two; stage = i.stage; judged = i.judged }
