-- Demand 3, proved: the promise of every history.
-- Assumes nothing.
use mathlib.Core.Path.{◌≡◌, refl, sym, ap, ap₂, ◌∙◌}
use mathlib.Core.Bool.{Bool, true, false, cond}
use mathlib.Core.List.{List, [], ◌∷◌, map}
use Prim.Native.Nat.{ℕ, zero, suc}
use native.Mathlib.Omega.{arith}
use lib.Dec.{eqb}
use lib.ListN.{length, get_or}
use Rattle.session.specs.Tables.{Figures, since}
use Rattle.session.specs.Condition.{command_conditions, answer_conditions, verdict_conditions, stamp_conditions, preview_conditions}
use Rattle.session.specs.Reading.{has_number, Arguments, Reading, begins, next_command, command_refused, answer_refused, verdict_refused, preview_refused, refused_by, read, refusals}
use Rattle.session.specs.Ranges.{in_range}
use Rattle.session.specs.Finding.{finding, stamp_of}
use Rattle.session.specs.Operation.{opened, command_of, command_buffer, verdict_of, field_of, stamp_buffer, preview_of}
use Rattle.session.specs.Promise.{Call, arguments_of, Host, call_number, numbers, History, start_host, finish, arguments_in, reading_of, reading_with, stamp_for, count_for, preview_for, Promise}
use Rattle.session.specs.declared.state.Session.{Session}
use Rattle.common.specs.Lists.{over_front}
use Rattle.common.specs.Refusal.{refusal_of}
use Rattle.common.proofs.ConditionLaws.{refusal_append, not_named}
use Rattle.session.proofs.Invariant.{session_of, Invariant, HostStandsFor}
use Rattle.session.proofs.InRangeLaws.{in_range_lem}
use Rattle.session.proofs.CommandLaws.{command_gives, command_leaves}
use Rattle.session.proofs.FieldLaws.{field_is, field_none}
use Rattle.session.proofs.GrantLaws.{granted_iff}
use Rattle.session.proofs.StampLaws.{stamp_is, stamps_iff}
use Rattle.session.proofs.CountLaws.{answers_step, answers-all}
use Rattle.session.proofs.BeginLaws.{begins_holds}
use Rattle.session.proofs.RunLaws.{number_is, stamp_number, on_list, numbers_are}
use Rattle.session.proofs.HistoryLaws.{with_call, call_finish, previews_out}

-- the host of a history has come to its reading
pub reached : (h : History) → HostStandsFor (finish h) (reading_of h)
unfolding opened
reached h = on_list h.calls (begins since h.opening) h.object (begins_holds h.opening h.object h.good) h.lent

all-numbers : (h : History) → numbers (start_host h) h.calls ≡ refusals (begins since h.opening) (arguments_in h)
unfolding opened
all-numbers h = numbers_are h.calls (begins since h.opening) h.object (begins_holds h.opening h.object h.good) h.lent

-- ---- the calls that have a number: all but the field call

pub calls_numbered : (room size tag kind yes_no : ℕ) (bytes cancelled fascn : List ℕ)
    → map has_number (Arguments.command room ∷ Arguments.answer size bytes cancelled ∷ Arguments.verdict kind yes_no fascn ∷ Arguments.field size tag ∷ Arguments.stamp room ∷ Arguments.preview kind yes_no fascn room ∷ [])
    ≡ true ∷ true ∷ true ∷ false ∷ true ∷ true ∷ []
calls_numbered room size tag kind yes_no bytes cancelled fascn = refl

-- ---- number 4 is none of the reading's

not_four : (r : Reading) (t : Arguments) → refused_by r t ≡ 4 → ⊥
unfolding command_refused answer_refused verdict_refused preview_refused
not_four r (Arguments.command room) e = not_named 4 (command_conditions r.progress.step r.progress.cause r.progress.outstanding room (length (next_command r))) refl e
not_four r (Arguments.answer size bytes cancelled) e = not_named 4 (answer_conditions r.figures r.progress.outstanding size (length bytes)) refl e
not_four r (Arguments.verdict kind yes_no fascn) e = not_named 4 (verdict_conditions r.figures r.opening.mode r.progress.step r.outcomes kind yes_no fascn) refl e
not_four r (Arguments.field size tag) e = let z : ◌≡◌ {A = ℕ} 0 4 = e in omega arith
not_four r (Arguments.stamp room) e = not_named 4 (stamp_conditions r.figures room) refl e
not_four r (Arguments.preview kind yes_no fascn room) e = not_named 4 (preview_conditions r.figures r.opening.mode r.progress.step r.outcomes kind yes_no fascn room) refl e

never_four : (ts : List Arguments) (r : Reading) (i : ℕ) → get_or (refusals r ts) i 0 ≡ 4 → ⊥
never_four [] r i e = let z : ◌≡◌ {A = ℕ} 0 4 = e in omega arith
never_four (t ∷ ts) r i e = of_both (has_number t) (refused_by r t) (refusals (read r t) ts) i (not_four r t) (never_four ts (read r t)) e
  where
    of_both : (b : Bool) (k : ℕ) (ks : List ℕ) (i : ℕ) → (k ≡ 4 → ⊥) → ((j : ℕ) → get_or ks j 0 ≡ 4 → ⊥) → get_or (cond b (k ∷ ks) ks) i 0 ≡ 4 → ⊥
    of_both true k ks zero p q e = p e
    of_both true k ks (suc i) p q e = q i e
    of_both false k ks i p q e = q i e

-- ---- the calls made next, on the session that stands for a reading

count_is : (k n : ℕ) (x y : Session) (b : Bool) → (cond {A = ℕ × ℕ × Session} b (0, n, x) (k, 0, y)).1 ≡ cond b n 0
count_is k n x y true = refl
count_is k n x y false = refl

command_count : (r : Reading) (m : List ℕ) (room : ℕ) → Invariant r m → (command_of (session_of r) room).1 ≡ count_for r room
command_count r m room i = rw (command_gives r m room i) (count_is _ _ _ _ (eqb (command_refused r room) 0))

stamp_leaves : (r : Reading) (m out : List ℕ) → Invariant r m → stamp_buffer (session_of r) out ≡ stamp_for r out
unfolding stamp_buffer
stamp_leaves r m out i = rw (stamp_number r m (length out) i, stamp_is r m i)

-- ---- the calls made next, after a history

-- the number is the reading's
pub number_next : (h : History) (c : Call) → call_number (finish h) c ≡ refused_by (reading_of h) (arguments_of c)
number_next h c = let a = reached h in ap (λ (x : Host). call_number x c) a.same ∙ number_is (reading_of h) a.object c a.holds

stamp_next : (h : History) (out : List ℕ) → stamp_buffer (finish h).session out ≡ stamp_for (reading_of h) out
stamp_next h out = let a = reached h in ap (λ (x : Host). stamp_buffer x.session out) a.same ∙ stamp_leaves (reading_of h) a.object out a.holds

-- of a preview: the number of the verdict, and where that is 0 it is 6 or 0
preview_by_lem : (r : Reading) (kind yes_no : ℕ) (fascn : List ℕ) (room : ℕ) → preview_refused r kind yes_no fascn room ≡ cond (eqb (verdict_refused r kind yes_no fascn) 0) (refusal_of (stamp_conditions r.figures room)) (verdict_refused r kind yes_no fascn)
unfolding preview_refused verdict_refused
preview_by_lem r kind yes_no fascn room = refusal_append (verdict_conditions r.figures r.opening.mode r.progress.step r.outcomes kind yes_no fascn) (stamp_conditions r.figures room) refl

-- the buffer of two calls, each with its number
bytes_by : (b : Bool) (k n : ℕ) (x y : List ℕ) → (cond {A = ℕ × List ℕ} b (k, x) (n, y)).1 ≡ cond b x y
bytes_by true k n x y = refl
bytes_by false k n x y = refl

both : (k q : ℕ) (x y : List ℕ) → cond (eqb k 0) (cond (eqb q 0) x y) y ≡ cond (eqb (cond (eqb k 0) q k) 0) x y
both k q x y = go (eqb k 0) refl
  where
    go : (b : Bool) → eqb k 0 ≡ b → cond b (cond (eqb q 0) x y) y ≡ cond (eqb (cond b q k) 0) x y
    go true e = refl
    go false e = rw e

preview_next : (h : History) (kind yes_no : ℕ) (fascn out : List ℕ) → (preview_of (finish h).session kind yes_no fascn out).1 ≡ preview_for h kind yes_no fascn out
unfolding preview_of
preview_next h kind yes_no fascn out =
    let c = Call.verdict kind yes_no fascn in
    let by : Figures → List ℕ = λ f. cond (eqb (refusal_of (stamp_conditions f (length out))) 0) (over_front (stamp_of (finding (reading_with h c))) out) out in
    let stamp : stamp_buffer (verdict_of (finish h).session kind yes_no fascn).1 out ≡ by (reading_of h).figures =
    ap (λ (x : Host). stamp_buffer x.session out) (sym (call_finish h c tt)) ∙ stamp_next (with_call h c tt) out
    ∙ ap by ((reached (with_call h c tt)).holds.figures ∙ sym (reached h).holds.figures) in
    bytes_by (eqb (verdict_of (finish h).session kind yes_no fascn).0 0) _ _ _ _
    ∙ ap₂ (λ (n : ℕ) (l : List ℕ). cond (eqb n 0) l out) (number_next h c) stamp
    ∙ both (verdict_refused (reading_of h) kind yes_no fascn) (refusal_of (stamp_conditions (reading_of h).figures (length out))) (over_front (stamp_of (finding (reading_with h c))) out) out
    ∙ ap (λ (n : ℕ). cond (eqb n 0) (over_front (stamp_of (finding (reading_with h c))) out) out) (sym (preview_by_lem (reading_of h) kind yes_no fascn (length out)))

-- ---- the promise

pub promise : (h : History) → Promise h
promise h =
    let a = reached h in
    let r = reading_of h in
    let m = a.object in
    let i = a.holds in
    let s : (finish h).session ≡ session_of r = ap (λ (x : Host). x.session) a.same in
    record {
      stamp_number = λ out. number_next h (Call.stamp out);
      stamp_bytes = stamp_next h;
      command_number = λ out. number_next h (Call.command out);
      command_count = λ out. ap (λ (x : Session). (command_of x (length out)).1) s ∙ command_count r m (length out) i;
      command_bytes = λ out. ap (λ (x : Session). command_buffer x out) s ∙ command_leaves r m out i;
      field_value = λ tag. ap (λ (x : Host). field_of x.session x.object tag) a.same ∙ field_is r m tag i;
      field_empty = λ object tag e. ap (λ (x : Session). field_of x object tag) s ∙ field_none r m object tag i e;
      preview_number = λ kind yes_no fascn out. number_next h (Call.preview kind yes_no fascn out);
      preview_bytes = preview_next h;
      previews_out = previews_out h;
      refused = all-numbers h;
      never_four = λ n e. never_four (arguments_in h) (begins since h.opening) n (ap (λ (l : List ℕ). get_or l n 0) (sym (all-numbers h)) ∙ e);
      in_range = ap in_range s ∙ in_range_lem r m i;
      apart = λ u. stamps_iff r (reading_of u) m (reached u).object i (reached u).holds;
      granted = granted_iff r m i;
      answers_step = λ step. answers_step step since h.opening (arguments_in h);
      answers-all = answers-all since h.opening (arguments_in h);
    }
