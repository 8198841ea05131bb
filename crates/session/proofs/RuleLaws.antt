-- The rules of an answer: the causes that they give are 16 to 22, and data that is appended has room.
-- Assumes nothing.
use mathlib.Core.Path.{◌≡◌, refl}
use mathlib.Core.Bool.{Bool, true, false, cond, not, ◌&&◌}
use mathlib.Core.List.{List, [], ◌∷◌}
use Prim.Native.Nat.{ℕ, ◌+◌, ◌≤◌}
use borrow.Author.Tests.{ltb-false, eqb-true, not-false}
use lib.Dec.{eqb, ltb}
use Rattle.card.specs.Fascn.{unpack_of}
use Rattle.card.specs.Tlv.{only_of}
use Rattle.card.specs.Template.{template_tag, template_of, good_from}
use Rattle.card.specs.Object.{malformed_object, expiry_tag, object_of, field_value}
use Rattle.card.specs.Date.{ill_formed_date, date_of}
use Rattle.card.specs.declared.command.Status.{Status}
use Rattle.card.specs.declared.command.Status.TheVariants.{Done, More, Again, Other}
use Rattle.session.specs.Tables.{status_cause, empty_cause, full_cause, fascn_cause, kind_at, capacity, fascn_read, NextCommand, is_response, is_sent_again, wrong_status, is_more, rule_cause, object_cause, joined_cause}
use Rattle.session.specs.Ranges.{cause_in_range}
use Rattle.std.specs.Prelude.{Option, Some, None}
use Rattle.common.specs.Refusal.{refusal_of}
use Rattle.session.specs.Operation.{next_of, sent_again, cause_in, next_after, rules_of, with_session_progress, progress_continued, judged_session, appended_session}
use Rattle.session.specs.declared.state.Session.{Session}
use Rattle.session.specs.declared.state.Next.{Next}
use Rattle.session.specs.declared.state.Next.TheVariants.{GetResponse}
use Rattle.session.proofs.CallLaws.{when_accepted, when_refused}
use Rattle.common.proofs.TestLaws.{either, or_left, or_right}
use Rattle.common.proofs.ConditionLaws.{none_fit}

abbrev InRange : ℕ → Type 0
InRange k = cause_in_range k ≡ true

-- what rules 1 to 3 give is a cause, or 0
pub rule_in_range : (status : Status) (command : NextCommand) (n total most : ℕ) → cause_in_range (rule_cause status command n total most) ≡ true
unfolding rule_cause
rule_in_range status command n total most =
    either InRange (wrong_status status command n) {x = status_cause} refl
    (either InRange ((is_more status && eqb n 0) && is_response command) {x = empty_cause} refl (either InRange (ltb most (total + n)) {x = full_cause} {y = 0} refl refl))

-- data that is appended has room in its step
pub rule_fits : (status : Status) (command : NextCommand) (n total most : ℕ) → rule_cause status command n total most ≡ 0 → total + n ≤ most
unfolding rule_cause
rule_fits status command n total most e =
    let f = none_fit ((status_cause, wrong_status status command n) ∷ (empty_cause, (is_more status && eqb n 0) && is_response command) ∷ (full_cause, ltb most (total + n)) ∷ []) refl e in
    ltb-false most (total + n) f.1.1.0

-- a 6C that gives no cause is the first, and has no data
pub rule_again : (last : ℕ) (command : NextCommand) (n total most : ℕ) → rule_cause (Again last) command n total most ≡ 0 → (is_sent_again command ≡ false) × (n ≡ 0)
unfolding rule_cause
rule_again last command n total most e =
    let f = (none_fit ((status_cause, wrong_status (Again last) command n) ∷ (empty_cause, false) ∷ (full_cause, ltb most (total + n)) ∷ []) refl e).0 in
    (or_left (is_sent_again command) (not (eqb n 0)) f, eqb-true n 0 (not-false _ (or_right (is_sent_again command) (not (eqb n 0)) f)))

-- what the judging of joined data gives is a cause, or 0
pub joined_in_range : (mode step : ℕ) (joined : List ℕ) → cause_in_range (joined_cause mode step joined) ≡ true
unfolding joined_cause template_of object_cause
joined_in_range mode step joined =
    either InRange (eqb step 0) (either InRange (good_from (only_of template_tag joined) joined) {x = 0} {y = 19} refl refl)
    (either InRange (not (eqb (object_of (kind_at mode step) joined).0 0)) {x = malformed_object} refl
    (either InRange (eqb step 1 && not (eqb (unpack_of (fascn_read mode joined)).0 0)) {x = fascn_cause} refl
    (either InRange (eqb step 1 && not (eqb (date_of (field_value (kind_at mode 1) expiry_tag joined)).0 0)) {x = ill_formed_date} {y = 0} refl refl)))

-- ---- by the rules

-- the first rule that fits, or the command that is next
pub rules_are : (s : Session) (status : Status) (n : ℕ)
    → let command = next_of s.progress.next in
    rules_of s status n ≡ cond (wrong_status status command n) (16, None)
    (cond ((is_more status && eqb n 0) && is_response command) (17, None)
    (cond (ltb (capacity s.opening.mode s.progress.step) (s.progress.filled + n)) (18, None) (0, next_after status s.progress.next)))
unfolding rules_of rule_cause
rules_are s status n = go (wrong_status status (next_of s.progress.next) n) _ _
  where
    go : (w e f : Bool) → let k = refusal_of ((16, w) ∷ (17, e) ∷ (18, f) ∷ []) in
        ◌≡◌ {A = ℕ × Option Next} (cond (eqb k 0) (0, next_after status s.progress.next) (k, None)) (cond w (16, None) (cond e (17, None) (cond f (18, None) (0, next_after status s.progress.next))))
    go true e f = refl
    go false true f = refl
    go false false true = refl
    go false false false = refl

pub rules_taken : (s : Session) (status : Status) (n : ℕ) {after : Option Next} → (0, after) ≡ rules_of s status n → (cause_in s status n ≡ 0) × (after ≡ next_after status s.progress.next)
unfolding rules_of
rules_taken s status n e = when_accepted (cause_in s status n) (next_after status s.progress.next) None e refl

pub rules_stopped : (s : Session) (status : Status) (n : ℕ) {k : ℕ} → (k, None) ≡ rules_of s status n → (k ≡ 0 → ⊥) → k ≡ cause_in s status n
unfolding rules_of
rules_stopped s status n e f = when_refused (cause_in s status n) (next_after status s.progress.next) None e f

-- the session then, where a command is next, and where none is
pub appended_next : (status : Status) (s : Session) (joined : List ℕ) (n : ℕ) (cancelled : List ℕ) {next : Next} → next_after status s.progress.next ≡ Some next
    → with_session_progress s (progress_continued s.progress n next) ≡ appended_session status s joined n cancelled
appended_next Done s joined n cancelled e = cc
appended_next (More second) s joined n cancelled {next} e = let h : GetResponse second ≡ next = cc in rw (← h)
appended_next (Again last) s joined n cancelled {next} e = let h : sent_again s.progress.next last ≡ next = cc in rw (← h)
appended_next Other s joined n cancelled e = cc

pub appended_judged : (status : Status) (s : Session) (joined : List ℕ) (n : ℕ) (cancelled : List ℕ) → next_after status s.progress.next ≡ None
    → judged_session s joined cancelled ≡ appended_session status s joined n cancelled
appended_judged Done s joined n cancelled e = refl
appended_judged (More second) s joined n cancelled e = cc
appended_judged (Again last) s joined n cancelled e = cc
appended_judged Other s joined n cancelled e = refl
