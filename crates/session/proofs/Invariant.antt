-- What holds after every call: the session that stands for a reading, and what is known of the reading and of the object buffer.
-- Assumes nothing.
use mathlib.Core.Path.{◌≡◌, refl, sym, ap, ◌∙◌}
use mathlib.Core.Bool.{Bool, true, cond}
use mathlib.Core.Option.{Option}
use mathlib.Core.List.{List, []}
use Prim.Native.Nat.{ℕ, ◌≤◌, ◌<◌}
use lib.ListN.{length, take, drop, replicate}
use Rattle.card.specs.Command.{aid_most, with_last}
use Rattle.card.proofs.CommandLaws.{with_last_twice, get_response_last}
use Rattle.common.specs.Lists.{over_front}
use Rattle.card.specs.Fascn.{unpack_of}
use Rattle.card.specs.Object.{expiry_tag, biometric_tag, empty, object_of, field_part, field_value}
use Rattle.card.specs.Date.{date_of}
use Rattle.card.specs.declared.object.Part.{Part}
use Rattle.card.specs.declared.command.Status.{Status}
use Rattle.card.specs.declared.command.Status.TheVariants.{Done, More, Again, Other}
use Rattle.session.specs.Tables.{since, checks, good_kind, needs, check_served, outcome_of, verdict_outcome, expiry_outcome, list_outcome, has_step2, kind_at, base_of, capacity, object_size, NextCommand, command_bytes, is_response, is_sent_again, rule_cause, fascn_read, key_read, expiry_read, status_shown}
use Rattle.session.specs.Reading.{Opening, Progress, StepOne, Verdict, Found, Reading, own_fascn}
use Rattle.session.specs.Finding.{verdict_on}
use Rattle.session.specs.Ranges.{step_in_range, cause_in_range, outstanding_in_range, outcomes_in_range}
use Rattle.session.specs.Operation.{next_of, sent_again, no_parts}
use Rattle.session.specs.Promise.{Bytes, Host, good_opening}
use Rattle.session.specs.declared.state.SessionOpening.{SessionOpening}
use Rattle.session.specs.declared.state.SessionProgress.{SessionProgress}
use Rattle.session.specs.declared.state.Card.{Card}
use Rattle.session.specs.declared.state.Session.{Session}
use Rattle.session.specs.declared.state.Next.{Next}
use Rattle.session.specs.declared.state.Next.TheVariants.{Initial, GetResponse, InitialAgain, GetResponseAgain}

-- ---- the session that stands for a reading

abbrev pub opening_of : Opening → SessionOpening
opening_of o = record { mode = o.mode; date = o.date; aid = over_front o.aid (replicate aid_most 0); aid_len = length o.aid }

abbrev pub next_of_lem : NextCommand → Next
next_of_lem NextCommand.of_step = Initial
next_of_lem (NextCommand.get_response second) = GetResponse second
next_of_lem (NextCommand.again command last) = sent_again (next_of_lem command) last

-- it is the reading's: GET RESPONSE where that is, one sent again where that is, and the same bytes
pub next_response : (n : NextCommand) → is_response (next_of (next_of_lem n)) ≡ is_response n
next_response NextCommand.of_step = refl
next_response (NextCommand.get_response second) = refl
next_response (NextCommand.again command last) = again (next_of_lem command) ∙ next_response command
  where
    again : (x : Next) → is_response (next_of (sent_again x last)) ≡ is_response (next_of x)
    again Initial = refl
    again (GetResponse second) = refl
    again (InitialAgain former) = refl
    again (GetResponseAgain former) = refl

pub next_again : (n : NextCommand) → is_sent_again (next_of (next_of_lem n)) ≡ is_sent_again n
next_again NextCommand.of_step = refl
next_again (NextCommand.get_response second) = refl
next_again (NextCommand.again command last) = again (next_of_lem command)
  where
    again : (x : Next) → is_sent_again (next_of (sent_again x last)) ≡ true
    again Initial = refl
    again (GetResponse second) = refl
    again (InitialAgain former) = refl
    again (GetResponseAgain former) = refl

again_bytes : (mode : ℕ) (aid : List ℕ) (step last : ℕ) (x : Next) → command_bytes mode aid step (next_of (sent_again x last)) ≡ with_last (command_bytes mode aid step (next_of x)) last
unfolding command_bytes
again_bytes mode aid step last Initial = refl
again_bytes mode aid step last (GetResponse second) = get_response_last last last ∙ sym (get_response_last second last)
again_bytes mode aid step last (InitialAgain former) = sym (with_last_twice (command_bytes mode aid step NextCommand.of_step) former last)
again_bytes mode aid step last (GetResponseAgain former) = get_response_last last last ∙ sym (rw (get_response_last former former) (get_response_last former last))

pub next_bytes : (mode : ℕ) (aid : List ℕ) (step : ℕ) (n : NextCommand) → command_bytes mode aid step (next_of (next_of_lem n)) ≡ command_bytes mode aid step n
unfolding command_bytes
next_bytes mode aid step NextCommand.of_step = refl
next_bytes mode aid step (NextCommand.get_response second) = refl
next_bytes mode aid step (NextCommand.again command last) = again_bytes mode aid step last (next_of_lem command) ∙ ap (λ (c : List ℕ). with_last c last) (next_bytes mode aid step command)

-- so rules 1 to 3 give the same
pub next_cause : (status : Status) (next : NextCommand) (n total most : ℕ) → rule_cause status (next_of (next_of_lem next)) n total most ≡ rule_cause status next n total most
unfolding rule_cause
next_cause Done next n total most = refl
next_cause (More second) next n total most = rw (next_response next)
next_cause (Again last) next n total most = rw (next_again next)
next_cause Other next n total most = refl

abbrev pub progress_of : Progress → SessionProgress
progress_of c =
    record { step = c.step; filled = length c.joined; outstanding = c.outstanding; next = next_of_lem c.next; cause = c.cause; sw1 = c.sw1; sw2 = c.sw2 }

abbrev pub expiry_of : ℕ → Option StepOne → ℕ
expiry_of mode Option.none = 0
expiry_of mode (Option.some f) = expiry_read mode f.joined

abbrev pub parts_one : ℕ → Option StepOne → List Part
parts_one mode Option.none = no_parts
parts_one mode (Option.some f) = (object_of (kind_at mode 1) f.joined).1

abbrev pub part_two : ℕ → Option (List ℕ) → Part
part_two mode Option.none = empty
part_two mode (Option.some joined) = field_part (kind_at mode 2) biometric_tag joined

abbrev pub card_of_lem : ℕ → Option StepOne → Option (List ℕ) → Card
card_of_lem mode one two = record { fascn = own_fascn mode one; expiry = expiry_of mode one; step1 = parts_one mode one; step2 = part_two mode two }

abbrev pub session_of : Reading → Session
session_of r =
    record { opening = opening_of r.opening; progress = progress_of r.progress; outcomes = r.outcomes; card = card_of_lem r.opening.mode r.found.step1 r.found.step2 }

abbrev pub host_of : Reading → List ℕ → Host
host_of r m = record { session = session_of r; object = m }

-- ---- what is known of the good ends of steps 1 and 2

-- the object buffer has a step's joined data from the step's base on
pub record Held (mode step : ℕ) (xs m : List ℕ) : Type 0 where
  pub whole : length m ≡ object_size
  pub small : length xs ≤ capacity mode step
  pub held : take (length xs) (drop (base_of step) m) ≡ xs

-- step 1's joined data is an object with a well-formed FASC-N and a date
pub record GoodOne (mode : ℕ) (f : StepOne) : Type 0 where
  pub object : (object_of (kind_at mode 1) f.joined).0 ≡ 0
  pub fascn : (unpack_of (fascn_read mode f.joined)).0 ≡ 0
  pub date : (date_of (field_value (kind_at mode 1) expiry_tag f.joined)).0 ≡ 0
  pub bytes : Bytes f.joined

abbrev pub OneHeld : ℕ → Option StepOne → List ℕ → Type 0
OneHeld mode Option.none m = Unit
OneHeld mode (Option.some f) m = GoodOne mode f × Held mode 1 f.joined m

abbrev pub TwoHeld : ℕ → Option (List ℕ) → List ℕ → Type 0
TwoHeld mode Option.none m = Unit
TwoHeld mode (Option.some joined) m = (has_step2 mode ≡ true) × Held mode 2 joined m

-- what is found by a step
pub data Stage (step : ℕ) (f : Found) : Type 0 where
  early : step < 2 → f ≡ record { step1 = Option.none; step2 = Option.none; verdicts = [] } → Stage step f
  between : step ≡ 2 → (one : StepOne) → f ≡ record { step1 = Option.some one; step2 = Option.none; verdicts = [] } → Stage step f
  late : step ≡ 3 → (one : StepOne) → f.step1 ≡ Option.some one → Stage step f

-- ---- the outcomes, by what gave them

-- the outcome of a verdict kind, which the mode needs or not: awaited or unneeded, or what an accepted verdict gave
pub data VerdictGave (kind : ℕ) (needed : Bool) (own : List ℕ) (v : Option Verdict) (o : ℕ) : Type 0 where
  awaiting : v ≡ Option.none → o ≡ cond needed 1 0 → VerdictGave kind needed own v o
  taken : (yes_no : ℕ) (fascn : List ℕ) → v ≡ Option.some (record { kind = kind; yes_no = yes_no; fascn = fascn }) → needed ≡ true → yes_no ≤ 1 → o ≡ verdict_outcome own yes_no fascn
      → VerdictGave kind needed own v o

-- checks 3 and 4, once step 1 has ended well
abbrev pub ExpiryJudged : ℕ → ℕ → List ℕ → Option StepOne → Type 0
ExpiryJudged mode date o Option.none = Unit
ExpiryJudged mode date o (Option.some f) = outcome_of o 3 ≡ expiry_outcome date (expiry_read mode f.joined)

abbrev pub ListJudged : ℕ → List ℕ → Option StepOne → Type 0
ListJudged mode o Option.none = Unit
ListJudged mode o (Option.some f) = outcome_of o 4 ≡ list_outcome (key_read mode f.joined) f.cancelled

pub record Judged (opening : Opening) (o : List ℕ) (f : Found) : Type 0 where
  pub counted : length o ≡ checks
  pub small : outcomes_in_range o ≡ true
  pub verdicts : (kind : ℕ) → good_kind since kind ≡ true
      → VerdictGave kind (needs opening.mode (check_served kind)) (own_fascn opening.mode f.step1) (verdict_on kind f.verdicts) (outcome_of o (check_served kind))
  pub expiry : ExpiryJudged opening.mode opening.date o f.step1
  pub list : ListJudged opening.mode o f.step1

-- ---- all that is known

-- of the progress of the reading, in a mode
pub record GoodProgress (mode : ℕ) (c : Progress) : Type 0 where
  pub step : step_in_range mode c.step ≡ true
  pub filled : length c.joined ≤ capacity mode c.step
  pub cause : cause_in_range c.cause ≡ true
  pub outstanding : outstanding_in_range c.outstanding c.step c.cause ≡ true
  -- at step 3 no cause arose
  pub no_cause : c.step ≡ 3 → c.cause ≡ 0
  -- the status word is 00 00 unless the cause is 16
  pub shown1 : status_shown c.cause c.sw1 ≡ c.sw1
  pub shown2 : status_shown c.cause c.sw2 ≡ c.sw2
  pub bytes : Bytes c.joined

pub record Invariant (r : Reading) (m : List ℕ) : Type 0 where
  pub figures : r.figures ≡ since
  pub opening : good_opening since r.opening ≡ true
  pub progress_good : GoodProgress r.opening.mode r.progress
  pub held : take (length r.progress.joined) (drop (base_of r.progress.step) m) ≡ r.progress.joined
  pub one : OneHeld r.opening.mode r.found.step1 m
  pub two : TwoHeld r.opening.mode r.found.step2 m
  pub stage : Stage r.progress.step r.found
  pub judged : Judged r.opening r.outcomes r.found

-- a host whose session stands for a reading, with a buffer of which all this holds
pub record HostStandsFor (h : Host) (r : Reading) : Type 0 where
  pub object : List ℕ
  pub same : h ≡ host_of r object
  pub holds : Invariant r object

-- the same of its session and its buffer
abbrev pub StandsFor : Session → List ℕ → Reading → Type 0
StandsFor s m r = HostStandsFor (record { session = s; object = m }) r

pub stays : (r : Reading) (m : List ℕ) → Invariant r m → HostStandsFor (host_of r m) r
stays r m i = record { object = m; same = refl; holds = i }
