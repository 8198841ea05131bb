-- The ranges of a session's values (document 01: "Its values have ranges"; "and so do the session's ranges", document 02, request 7). A session that misses one is dead or out of range, number 4.
-- Assumes nothing.
use Rattle.std.specs.Prelude.{Bool, not, ◌&&◌, ◌||◌, List, ℕ, ◌+◌, eqb, leb, get_or}
use Rattle.common.specs.Lists.{all}
use Rattle.card.specs.Date.{real_date}
use Rattle.card.specs.Command.{good_aid}
use Rattle.card.specs.Object.{empty, most_fields}
use Rattle.card.specs.declared.object.Part.{Part}
use Rattle.session.specs.Tables.{since, checks, other_card, mode_in_range, ends, has_step2, base_of, capacity, object_size}
use Rattle.session.specs.declared.state.Session.{Session}
use Rattle.session.specs.declared.range.Values.{Values}

-- "mode 1–6", "opening date real", "AID length 5–16"
abbrev pub opening_in_range : ℕ → ℕ → ℕ → Bool
opening_in_range mode date aidLength = (mode_in_range since mode && real_date date) && good_aid aidLength

-- "step 0–3"; "step 2 in modes 3 to 6"
abbrev pub step_in_range : ℕ → ℕ → Bool
step_in_range mode step = leb step 3 && (not (eqb step 2) || has_step2 mode)

-- "cause 0 or 16–22"
abbrev pub cause_in_range : ℕ → Bool
cause_in_range cause = eqb cause 0 || ends cause

-- "a command outstanding only in steps 0 to 2 with cause 0"
abbrev pub outstanding_in_range : Bool → ℕ → ℕ → Bool
outstanding_in_range outstanding step cause = not outstanding || (leb step 2 && eqb cause 0)

-- "filled up to 16,384 in step 2 of modes 5 and 6 and up to 4,096 otherwise" beside these
abbrev pub progress_in_range : ℕ → ℕ → ℕ → ℕ → Bool → Bool
progress_in_range mode step filled cause outstanding =
    (step_in_range mode step && leb filled (capacity mode step)) && (cause_in_range cause && outstanding_in_range outstanding step cause)

-- "outcomes 0–4"
unfoldable pub outcomes_in_range : List ℕ → Bool
outcomes_in_range o = all checks (λ i. leb (get_or o i 0) other_card)

-- "field parts inside 20,480": a part is kept by its place in its step's data, which begins at `base` in the object buffer.
abbrev pub part_inside : ℕ → Part → Bool
part_inside base p = leb (base + p.start + p.len) object_size

unfoldable pub parts_inside : ℕ → List Part → Bool
parts_inside base ps = all most_fields (λ i. part_inside base (get_or ps i empty))

-- "expiry real or 0"; "FASC-N any 25 bytes" asks nothing. Whether the field parts are inside is tested beforehand.
abbrev pub card_in_range : ℕ → Bool → Bool
card_in_range expiry inside = (eqb expiry 0 || real_date expiry) && inside

-- ---- the values that have ranges, and their test

unfoldable pub ranged_values : Session → Values
ranged_values s =
    record {
      date = s.opening.date;
      expiry = s.card.expiry;
      aid_len = s.opening.aid_len;
      filled = s.progress.filled;
      mode = s.opening.mode;
      step = s.progress.step;
      cause = s.progress.cause;
      outstanding = s.progress.outstanding;
      inside = parts_inside (base_of 1) s.card.step1 && part_inside (base_of 2) s.card.step2;
      outcomes = s.outcomes;
    }

unfoldable pub values_in_range : Values → Bool
values_in_range v =
    (opening_in_range v.mode v.date v.aid_len && progress_in_range v.mode v.step v.filled v.cause v.outstanding)
    && (outcomes_in_range v.outcomes && card_in_range v.expiry v.inside)

unfoldable pub in_range : Session → Bool
in_range s = values_in_range (ranged_values s)

abbrev pub out_of_range : Session → Bool
out_of_range s = not (in_range s)
