-- A good opening: what holds of the reading that begins.
-- Assumes nothing.
use mathlib.Core.Path.{◌≡◌, refl}
use mathlib.Core.Bool.{true, cond}
use mathlib.Core.List.{List, []}
use Prim.Native.Nat.{ℕ, ◌+◌, ◌<◌}
use native.Mathlib.Omega.{arith}
use lib.Dec.{leb}
use lib.ListN.{length, get_or}
use Rattle.common.proofs.ListsLaws.{all_of, length-list_of, get_or_list_of}
use Rattle.session.specs.Tables.{since, checks, good_kind, needs, check_served, outcome_of, needed_at, needed_outcomes}
use Rattle.session.specs.Ranges.{outcomes_in_range}
use Rattle.session.specs.Reading.{Opening, begins}
use Rattle.session.specs.Finding.{verdict_on}
use Rattle.session.specs.Promise.{good_opening}
use Rattle.common.proofs.TestLaws.{either}
use Rattle.session.proofs.Invariant.{Stage, VerdictGave, Invariant}
use Rattle.session.proofs.OutcomeLaws.{place_of, placed}

needed_at_lem : (mode i : ℕ) → i < checks → get_or (needed_outcomes since mode) i 0 ≡ cond (needs mode (i + 1)) 1 0
unfolding needed_outcomes needed_at
needed_at_lem mode i h = get_or_list_of checks (needed_at mode) i h

needed_small : (mode : ℕ) → outcomes_in_range (needed_outcomes since mode) ≡ true
unfolding outcomes_in_range
needed_small mode =
    all_of (λ i. leb (get_or (needed_outcomes since mode) i 0) 4) checks
    (λ i h. rw (needed_at_lem mode i h) (either (λ (v : ℕ). leb v 4 ≡ true) (needs mode (i + 1)) {x = 1} {y = 0} refl refl))

needed_counted : (mode : ℕ) → length (needed_outcomes since mode) ≡ checks
unfolding needed_outcomes
needed_counted mode = length-list_of checks (needed_at mode)

awaiting : (mode kind : ℕ) (own : List ℕ) → good_kind since kind ≡ true → VerdictGave kind (needs mode (check_served kind)) own (verdict_on kind []) (outcome_of (needed_outcomes since mode) (check_served kind))
unfolding verdict_on
awaiting mode kind own g =
    let p = placed kind g in
    VerdictGave.awaiting refl (rw p.next at (needed_at_lem mode (place_of kind) p.low))

pub begins_holds : (o : Opening) (m : List ℕ) → good_opening since o ≡ true → Invariant (begins since o) m
begins_holds o m e =
    record {
      figures = refl;
      opening = e;
      progress_good = record { step = refl; filled = omega arith; cause = refl; outstanding = refl; no_cause = λ z. refl; shown1 = refl; shown2 = refl; bytes = λ i. omega arith };
      held = refl;
      one = tt;
      two = tt;
      stage = Stage.early (omega arith) refl;
      judged = record { counted = needed_counted o.mode; small = needed_small o.mode; verdicts = λ kind g. awaiting o.mode kind _ g; expiry = tt; list = tt };
    }
