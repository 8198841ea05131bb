-- Every call, and every list of calls: the host comes to the reading, and each call is refused by the reading's number.
-- Assumes nothing.
use mathlib.Core.Path.{◌≡◌, refl, sym, ap, ap₂, subst, ◌∙◌}
use mathlib.Core.Bool.{Bool, true, false, cond}
use mathlib.Core.List.{List, [], ◌∷◌, map}
use Prim.Native.Nat.{ℕ, ◌-◌}
use borrow.Author.Tests.{eqb-true}
use lib.Dec.{eqb}
use lib.ListN.{length}
use Rattle.common.specs.Refusal.{refusal_of}
use Rattle.session.specs.Tables.{data_of, status_bytes}
use Rattle.session.specs.Condition.{stamp_conditions}
use Rattle.session.specs.Reading.{has_number, Arguments, Reading, command_refused, answer_refused, answer_taken, verdict_refused, verdict_taken, preview_refused, refused_by, read, reading, refusals}
use Rattle.session.specs.Operation.{command_of, answer_taken_session, answer_taken_buffer, answer_of, answer_buffer, verdict_refusal, verdict_of, stamp_refusal, stamp_answer, preview_refusal}
use Rattle.session.specs.Promise.{Call, arguments_of, Host, call_number, host_after, run_calls, numbers, LentNow, Lent}
use Rattle.session.specs.declared.state.Session.{Session}
use Rattle.common.proofs.TestLaws.{by_test, either}
use Rattle.session.proofs.Invariant.{session_of, host_of, Invariant, HostStandsFor, stays, StandsFor}
use Rattle.session.proofs.InRangeLaws.{in_range_lem}
use Rattle.session.proofs.CommandLaws.{command_gives, on_command}
use Rattle.session.proofs.AnswerLaws.{takes_answer, answer_number, answer_accepts}
use Rattle.session.proofs.VerdictLaws.{on_verdict, verdict_taken_session_lem}
use Rattle.session.proofs.PreviewLaws.{two_calls_number}
use Rattle.session.proofs.BytesLaws.{part_bytes_lem}

-- ---- the number of a call

pub zero_or : {A : Type 0} (k : ℕ) (x y : A) (b : Bool) → eqb k 0 ≡ b → (cond {A = ℕ × A} b (0, x) (k, y)).0 ≡ k
zero_or k x y true e = sym (eqb-true k 0 e)
zero_or k x y false e = refl

command_zero_or : (k n : ℕ) (x y : Session) (b : Bool) → eqb k 0 ≡ b → (cond {A = ℕ × ℕ × Session} b (0, n, x) (k, 0, y)).0 ≡ k
command_zero_or k n x y true e = sym (eqb-true k 0 e)
command_zero_or k n x y false e = refl

command_refused_lem : (r : Reading) (m : List ℕ) (room : ℕ) → Invariant r m → (command_of (session_of r) room).0 ≡ command_refused r room
command_refused_lem r m room i = rw (command_gives r m room i) (command_zero_or (command_refused r room) _ _ _ _ refl)

pub answer_refusal_is : (r : Reading) (m object bytes cancelled : List ℕ) → Invariant r m → (answer_of (session_of r) object bytes cancelled).0 ≡ answer_refused r (length object) (length bytes)
unfolding answer_of
answer_refusal_is r m object bytes cancelled i = rw (answer_number r m (length object) (length bytes) i) (zero_or (answer_refused r (length object) (length bytes)) _ _ _ refl)

verdict_number : (r : Reading) (m : List ℕ) (kind yes_no : ℕ) (fascn : List ℕ) → Invariant r m → verdict_refusal (session_of r) kind yes_no fascn ≡ verdict_refused r kind yes_no fascn
unfolding verdict_refusal verdict_refused
verdict_number r m kind yes_no fascn i = rw (in_range_lem r m i, i.figures)

verdict_gives : (r : Reading) (m : List ℕ) (kind yes_no : ℕ) (fascn : List ℕ) → Invariant r m
    → verdict_of (session_of r) kind yes_no fascn ≡ cond (eqb (verdict_refused r kind yes_no fascn) 0) (0, session_of (verdict_taken r kind yes_no fascn)) (verdict_refused r kind yes_no fascn, session_of r)
unfolding verdict_of
verdict_gives r m kind yes_no fascn i = rw (verdict_number r m kind yes_no fascn i, verdict_taken_session_lem r kind yes_no fascn)

verdict_refused_lem : (r : Reading) (m : List ℕ) (kind yes_no : ℕ) (fascn : List ℕ) → Invariant r m → (verdict_of (session_of r) kind yes_no fascn).0 ≡ verdict_refused r kind yes_no fascn
verdict_refused_lem r m kind yes_no fascn i = rw (verdict_gives r m kind yes_no fascn i) (zero_or (verdict_refused r kind yes_no fascn) _ _ _ refl)

pub stamp_number : (r : Reading) (m : List ℕ) (room : ℕ) → Invariant r m → stamp_refusal (session_of r) room ≡ refusal_of (stamp_conditions r.figures room)
unfolding stamp_refusal
stamp_number r m room i = rw (in_range_lem r m i, i.figures)

preview_refused_lem : (r : Reading) (m : List ℕ) (kind yes_no : ℕ) (fascn : List ℕ) (room : ℕ) → Invariant r m → preview_refusal (session_of r) kind yes_no fascn room ≡ preview_refused r kind yes_no fascn room
unfolding preview_refusal preview_refused
preview_refused_lem r m kind yes_no fascn room i = rw (in_range_lem r m i, i.figures)

pub number_is : (r : Reading) (m : List ℕ) (c : Call) → Invariant r m → call_number (host_of r m) c ≡ refused_by r (arguments_of c)
unfolding stamp_answer
number_is r m (Call.command out) i = command_refused_lem r m (length out) i
number_is r m (Call.answer object bytes cancelled) i = answer_refusal_is r m object bytes cancelled i
number_is r m (Call.verdict kind yes_no fascn) i = verdict_refused_lem r m kind yes_no fascn i
number_is r m (Call.field object tag) i = refl
number_is r m (Call.stamp out) i = stamp_number r m (length out) i
number_is r m (Call.preview kind yes_no fascn out) i = two_calls_number (session_of r) kind yes_no fascn out ∙ preview_refused_lem r m kind yes_no fascn (length out) i

-- ---- what a call leaves

answer_stands : (k : ℕ) (x y : Session) (m₁ m₂ m : List ℕ) (r₁ r₂ : Reading) (b : Bool) → (b ≡ true → StandsFor x m₁ r₁) → StandsFor y m r₂
    → StandsFor (cond {A = ℕ × Session} b (0, x) (k, y)).1 (cond b (cond b m₁ m₂) m) (cond b r₁ r₂)
answer_stands k x y m₁ m₂ m r₁ r₂ true f g = f refl
answer_stands k x y m₁ m₂ m r₁ r₂ false f g = g

pub on_call : (r : Reading) (m : List ℕ) (c : Call) → Invariant r m → LentNow (host_of r m) c → HostStandsFor (host_after (host_of r m) c) (read r (arguments_of c))
unfolding read answer_of answer_buffer stamp_answer
on_call r m (Call.command out) i l =
    rw (command_gives r m (length out) i)
    (by_test (λ (x : ℕ × ℕ × Session) (q : Reading). StandsFor x.2 m q) _ _ _ _ (eqb (command_refused r (length out)) 0) (λ e. stays _ m (on_command r m (length out) i (eqb-true _ 0 e))) (λ _. stays r m i))
on_call r m (Call.answer object bytes cancelled) i l =
    let k = answer_refused r (length object) (length bytes) in
    rw (answer_number r m (length object) (length bytes) i)
    (answer_stands _ _ _ _ _ m _ _ (eqb k 0) (λ e. own (eqb-true k 0 e)) (stays r m i))
  where
    own : answer_refused r (length object) (length bytes) ≡ 0
        → StandsFor (answer_taken_session (session_of r) object (data_of bytes) (status_bytes bytes) cancelled) (answer_taken_buffer (session_of r) object (data_of bytes) (status_bytes bytes)) (answer_taken r (data_of bytes) (status_bytes bytes) cancelled)
    own e =
        let a = answer_accepts r m (length object) (length bytes) i e in
        let o : object ≡ m = l.0 (answer_refusal_is r m object bytes cancelled i ∙ e) in
        rw o (takes_answer r m (data_of bytes) (status_bytes bytes) cancelled i (sym (ap length o) ∙ a.whole) a.below (part_bytes_lem (length bytes - 2) 0 bytes l.1))
on_call r m (Call.verdict kind yes_no fascn) i l =
    rw (verdict_gives r m kind yes_no fascn i)
    (by_test (λ (x : ℕ × Session) (q : Reading). StandsFor x.1 m q) _ _ _ _ (eqb (verdict_refused r kind yes_no fascn) 0) (λ e. stays _ m (on_verdict r m kind yes_no fascn i (eqb-true _ 0 e))) (λ _. stays r m i))
on_call r m (Call.field object tag) i l = stays r m i
on_call r m (Call.stamp out) i l = either (HostStandsFor (host_of r m)) (eqb (refused_by r (Arguments.stamp (length out))) 0) (stays r m i) (stays r m i)
on_call r m (Call.preview kind yes_no fascn out) i l = either (HostStandsFor (host_of r m)) (eqb (refused_by r (Arguments.preview kind yes_no fascn (length out))) 0) (stays r m i) (stays r m i)

-- ---- every list

pub on_list : (cs : List Call) (r : Reading) (m : List ℕ) → Invariant r m → Lent (host_of r m) cs → HostStandsFor (run_calls (host_of r m) cs) (reading r (map arguments_of cs))
on_list [] r m i l = stays r m i
on_list (c ∷ cs) r m i l =
    let a = on_call r m c i l.0 in
    let rest : Lent (host_of (read r (arguments_of c)) a.object) cs = subst (λ (h : Host). Lent h cs) a.same l.1 in
    let b = on_list cs (read r (arguments_of c)) a.object a.holds rest in
    record { object = b.object; same = ap (λ (h : Host). run_calls h cs) a.same ∙ b.same; holds = b.holds }

pub numbers_are : (cs : List Call) (r : Reading) (m : List ℕ) → Invariant r m → Lent (host_of r m) cs → numbers (host_of r m) cs ≡ refusals r (map arguments_of cs)
numbers_are [] r m i l = refl
numbers_are (c ∷ cs) r m i l =
    let a = on_call r m c i l.0 in
    let rest : Lent (host_of (read r (arguments_of c)) a.object) cs = subst (λ (h : Host). Lent h cs) a.same l.1 in
    ap₂ (λ (k : ℕ) (ks : List ℕ). cond (has_number (arguments_of c)) (k ∷ ks) ks) (number_is r m c i) (ap (λ (h : Host). numbers h cs) a.same ∙ numbers_are cs (read r (arguments_of c)) a.object a.holds rest)
