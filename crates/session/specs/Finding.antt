-- The finding of a reading (document 01: "mode, opening date, step, cause, status word, six outcomes, FASC-N digits and expiry"; since request 7 of document 02 "seven outcomes, in all
-- six modes"), its standing, the bytes of its stamp, and what granted means of the calls.
-- Assumes nothing.
use Rattle.std.specs.Prelude.{◌≡◌, true, false, cond, List, [], ◌∷◌, ℕ, ◌≤◌, eqb, replicate}
use Rattle.std.proofs.Math.Option.{Option}
use Rattle.card.specs.Fascn.{fascn_bytes, pack_of}
use Rattle.common.specs.Lists.{is_in}
use Rattle.session.specs.Tables.{needs, good_kind, check_served, cause_of, all_passed, standing_of, fascn_read, digits_read, key_read, expiry_read, head_of, stamp_layout}
use Rattle.session.specs.Reading.{StepOne, Verdict, Reading}

pub record Finding : Type 0 where
  pub mode : ℕ
  pub date : ℕ
  pub step : ℕ
  pub cause : ℕ
  pub sw1 : ℕ
  pub sw2 : ℕ
  pub outcomes : List ℕ
  -- "both absent before step 1's good end"
  pub digits : Option (List ℕ)
  pub expiry : Option ℕ

abbrev pub digits_found : ℕ → Option StepOne → Option (List ℕ)
digits_found mode Option.none = Option.none
digits_found mode (Option.some f) = Option.some (digits_read mode f.joined)

abbrev pub expiry_found : ℕ → Option StepOne → Option ℕ
expiry_found mode Option.none = Option.none
expiry_found mode (Option.some f) = Option.some (expiry_read mode f.joined)

unfoldable pub finding : Reading → Finding
finding r =
    record {
      mode = r.opening.mode;
      date = r.opening.date;
      step = r.progress.step;
      cause = cause_of r.progress.cause r.outcomes;
      sw1 = r.progress.sw1;
      sw2 = r.progress.sw2;
      outcomes = r.outcomes;
      digits = digits_found r.opening.mode r.found.step1;
      expiry = expiry_found r.opening.mode r.found.step1;
    }

-- 0 open, 1 granted, 2 rejected.
abbrev pub standing : Finding → ℕ
standing f = standing_of f.mode f.step f.cause f.outcomes

-- ---- the stamp

-- "FASC-N (25, zeros if absent), expiry likewise"
abbrev pub fascn_stamped : Option (List ℕ) → List ℕ
fascn_stamped Option.none = replicate fascn_bytes 0
fascn_stamped (Option.some digits) = (pack_of digits).1

abbrev pub expiry_stamped : Option ℕ → ℕ
expiry_stamped Option.none = 0
expiry_stamped (Option.some expiry) = expiry

unfoldable pub stamp_of : Finding → List ℕ
stamp_of f =
    stamp_layout (head_of f.mode (standing f) f.cause f.sw1 f.sw2 f.step) f.outcomes f.date (fascn_stamped f.digits) (expiry_stamped f.expiry)

-- ---- granted, said of the calls

-- The verdict of a kind among those accepted.
unfoldable pub verdict_on : ℕ → List Verdict → Option Verdict
verdict_on kind [] = Option.none
verdict_on kind (v ∷ vs) = cond (eqb v.kind kind) (Option.some v) (verdict_on kind vs)

-- "every check of its mode passed in that reading, on one FASC-N that hadn't expired and wasn't cancelled": each needed outcome is 2; step 1 was read, and on the one
-- FASC-N in it the field 35 read with it is not before the opening date, its key is not in the list lent with the answer that ended step 1, and each verdict that the mode
-- needs was accepted as a yes on those 25 bytes. That the step is 3 follows (`at_step_3`, proofs/GrantLaws.antt).
pub record Granted (r : Reading) : Type 0 where
  pub passed : all_passed r.opening.mode r.outcomes ≡ true
  pub one : StepOne
  pub read : r.found.step1 ≡ Option.some one
  pub in_time : r.opening.date ≤ expiry_read r.opening.mode one.joined
  pub not_listed : is_in (key_read r.opening.mode one.joined) one.cancelled ≡ false
  pub verdicts : (kind : ℕ) → good_kind r.figures kind ≡ true → needs r.opening.mode (check_served kind) ≡ true
      → verdict_on kind r.found.verdicts ≡ Option.some (record { kind = kind; yes_no = 1; fascn = fascn_read r.opening.mode one.joined })
