-- Document 01's tables by mode, step, check and verdict kind, and its rules on single values, with requests 1, 5 and 7 of document 02. The reading of a list of calls and the operations
-- on a session share them, and each stands here once. Figures that request 7 changed are a parameter: `before` it and `since`.
-- Assumes nothing.
use Rattle.std.specs.Prelude.{Bool, true, false, cond, not, ◌&&◌, ◌||◌, List, [], ◌∷◌, ◌++◌, ℕ, suc, ◌+◌, ◌-◌, ◌*◌, ◌/◌, ◌%◌, eqb, ltb, leb, length, get_or, set, take, drop}
use Rattle.common.specs.Lists.{list_of, all, is_in, same_bytes}
use Rattle.common.specs.Refusal.{refusal_of}
use Rattle.card.specs.Fascn.{fascn_bytes, unpack_of, key_of}
use Rattle.card.specs.Template.{template_of}
use Rattle.card.specs.Object.{buffer_length_tag, fascn_tag, agency_tag, organization_tag, duns_tag, guid_tag, expiry_tag, signature_tag, biometric_tag, malformed_object, object_of, field_value}
use Rattle.card.specs.Date.{ill_formed_date, date_of}
use Rattle.card.specs.Command.{select_bytes, get_data_bytes, get_response_bytes, with_last}
use Rattle.card.specs.declared.object.Kind.{Kind}
use Rattle.card.specs.declared.object.Kind.TheVariants.{Signed, Unsigned, Fingers, Picture}
use Rattle.card.specs.declared.command.Status.{Status}
use Rattle.card.specs.declared.command.Status.TheVariants.{Done, More, Again, Other}
use Rattle.session.specs.declared.figures.Outcome.{Outcome}
use Rattle.session.specs.declared.figures.Outcome.TheVariants as outcomes
use Rattle.session.specs.declared.figures.Standing.{Standing}
use Rattle.session.specs.declared.figures.Standing.TheVariants as standings

-- ---- the figures that request 7 of document 02 changed

-- The greatest mode and the greatest verdict kind, both counted from 1; how many checks there are; the size of the object buffer.
pub record Figures : Type 0 where
  pub greatest_mode : ℕ
  pub greatest_kind : ℕ
  pub checks : ℕ
  pub object_size : ℕ

-- "Modes 1 to 4 are built." "Verdict kinds 1, 2, 3, 4". Checks: 1 signature, 2 signer, 3 expiry, 4 list, 5 active authentication, 6 finger. "The object buffer is 8,192 bytes".
abbrev pub before : Figures
before = record { greatest_mode = 4; greatest_kind = 4; checks = 6; object_size = 8192 }

-- "The object buffer becomes 20,480 bytes". This figure does not unfold by itself: proofs/FigureLaws.antt has what is to be known of it.
unfoldable pub object_size : ℕ
object_size = 20480

-- "mode 1–6"; "Verdict kind 5"; "a new check 7, picture".
abbrev pub since : Figures
since = record { greatest_mode = 6; greatest_kind = 5; checks = 7; object_size = object_size }

-- How many outcomes a session has.
abbrev pub checks : ℕ
checks = since.checks

-- ---- modes and checks

-- The modes of a session in range, and the modes that may be opened.
abbrev pub mode_in_range : Figures → ℕ → Bool
mode_in_range f mode = leb 1 mode && leb mode f.greatest_mode

abbrev pub mode_opens : Figures → ℕ → Bool
mode_opens f mode = mode_in_range f mode

-- Mode 1 needs 1–4, mode 2 needs 3–5, mode 3 needs 1–4 and 6, mode 4 "goes on with 1–6"; "Mode 5 needs checks 1–4 and a new check 7, picture; mode 6 needs 1–5 and 7".
abbrev pub checks_of : ℕ → List ℕ
checks_of mode =
    cond (eqb mode 1) (1 ∷ 2 ∷ 3 ∷ 4 ∷ [])
    (cond (eqb mode 2) (3 ∷ 4 ∷ 5 ∷ [])
    (cond (eqb mode 3) (1 ∷ 2 ∷ 3 ∷ 4 ∷ 6 ∷ [])
    (cond (eqb mode 4) (1 ∷ 2 ∷ 3 ∷ 4 ∷ 5 ∷ 6 ∷ [])
    (cond (eqb mode 5) (1 ∷ 2 ∷ 3 ∷ 4 ∷ 7 ∷ []) (1 ∷ 2 ∷ 3 ∷ 4 ∷ 5 ∷ 7 ∷ [])))))

-- The mode needs the check.
unfoldable pub needs : ℕ → ℕ → Bool
needs mode check = is_in check (checks_of mode)

abbrev pub good_kind : Figures → ℕ → Bool
good_kind f kind = leb 1 kind && leb kind f.greatest_kind

-- Verdict kinds 1, 2, 3, 4 serve checks 1, 2, 5, 6; "Verdict kind 5 serves check 7".
unfoldable pub check_served : ℕ → ℕ
check_served kind = cond (eqb kind 1) 1 (cond (eqb kind 2) 2 (cond (eqb kind 3) 5 (cond (eqb kind 4) 6 7)))

-- ---- outcomes: a list of as many as there are checks, that of check 1 first

-- An outcome is 0 unneeded, 1 awaited, 2 passed, 3 failed, 4 other card.
abbrev pub unneeded : ℕ
unneeded = 0

abbrev pub awaited : ℕ
awaited = 1

abbrev pub passed : ℕ
passed = 2

abbrev pub failed : ℕ
failed = 3

abbrev pub other_card : ℕ
other_card = 4

-- The number of an outcome of the code.
abbrev pub outcome_number : Outcome → ℕ
outcome_number outcomes.Unneeded = 0
outcome_number outcomes.Awaited = 1
outcome_number outcomes.Passed = 2
outcome_number outcomes.Failed = 3
outcome_number outcomes.OtherCard = 4

-- The outcome of a check, and the outcomes with that of a check set.
abbrev pub outcome_of : List ℕ → ℕ → ℕ
outcome_of o check = get_or o (check - 1) 0

abbrev pub with_outcome : List ℕ → ℕ → ℕ → List ℕ
with_outcome o check v = set o (check - 1) v

-- "needed outcomes 1, others 0"
unfoldable pub needed_at : ℕ → ℕ → ℕ
needed_at mode i = cond (needs mode (i + 1)) awaited unneeded

unfoldable pub needed_outcomes : Figures → ℕ → List ℕ
needed_outcomes f mode = list_of f.checks (needed_at mode)

-- "A no gives 3. A yes gives 2 if its 25 bytes equal step 1's FASC-N, else 4."
unfoldable pub verdict_outcome : List ℕ → ℕ → List ℕ → ℕ
verdict_outcome own yes_no fascn = cond (eqb yes_no 0) failed (cond (same_bytes fascn own) passed other_card)

-- Check 3: "2 if expiry is at or after the date given at opening, else 3".
unfoldable pub expiry_outcome : ℕ → ℕ → ℕ
expiry_outcome date expiry = cond (leb date expiry) passed failed

-- Check 4: "3 if the key stands anywhere in the list lent with that answer, else 2".
unfoldable pub list_outcome : ℕ → List ℕ → ℕ
list_outcome key cancelled = cond (is_in key cancelled) failed passed

-- ---- cause and standing

-- The causes that end the reading, 16 to 22: a status word that ends it (`wrong_status`); 61 without data to GET RESPONSE; a step's total past its
-- capacity; and FASC-N ill-formed. Template malformed (19), object malformed (20) and date ill-formed (22) are named by their readers, in crate card.
abbrev pub status_cause : ℕ
status_cause = 16

abbrev pub empty_cause : ℕ
empty_cause = 17

abbrev pub full_cause : ℕ
full_cause = 18

abbrev pub fascn_cause : ℕ
fascn_cause = 21

abbrev pub ends : ℕ → Bool
ends cause = leb status_cause cause && leb cause ill_formed_date

-- The lowest check with outcome 3 or 4, of the outcomes of check c and those after it; 0 where there is none.
unfoldable pub lowest_from : ℕ → List ℕ → ℕ
lowest_from c [] = 0
lowest_from c (v ∷ o) = cond (eqb v failed || eqb v other_card) c (lowest_from (suc c) o)

-- "Cause is 16 to 22 if one arose, else the lowest check with outcome 3 or 4, else 0."
unfoldable pub cause_of : ℕ → List ℕ → ℕ
cause_of arose o = cond (eqb arose 0) (lowest_from 1 o) arose

-- Each needed outcome is 2.
unfoldable pub all_passed : ℕ → List ℕ → Bool
all_passed mode o = all (length o) (λ i. not (needs mode (i + 1)) || eqb (get_or o i 0) passed)

-- "standing (0 open, 1 granted, 2 rejected)"
abbrev pub stands_open : ℕ
stands_open = 0

abbrev pub stands_granted : ℕ
stands_granted = 1

abbrev pub stands_rejected : ℕ
stands_rejected = 2

-- The number of a standing of the code.
abbrev pub standing_number : Standing → ℕ
standing_number standings.Open = 0
standing_number standings.Granted = 1
standing_number standings.Rejected = 2

-- "Standing is rejected if cause is not 0, granted if step is 3 and each needed outcome is 2, else open."
unfoldable pub standing_of : ℕ → ℕ → ℕ → List ℕ → ℕ
standing_of mode step cause o = cond (not (eqb cause 0)) stands_rejected (cond (eqb step 3 && all_passed mode o) stands_granted stands_open)

-- ---- steps

-- Step 0 is SELECT. Step 1 reads 5FC102, or 5FC104 in mode 2. Step 2 reads DFC103 in modes 3 and 4, and DFC108 in modes 5 and 6, "In these modes step 2 reads DFC108"; the other
-- modes have no step 2. Step 3 means all read.
abbrev pub reads_fingers : ℕ → Bool
reads_fingers mode = eqb mode 3 || eqb mode 4

abbrev pub reads_picture : ℕ → Bool
reads_picture mode = eqb mode 5 || eqb mode 6

abbrev pub has_step2 : ℕ → Bool
has_step2 mode = reads_fingers mode || reads_picture mode

abbrev pub kind_at : ℕ → ℕ → Kind
kind_at mode step = cond (eqb step 2) (cond (reads_picture mode) Picture Fingers) (cond (eqb mode 2) Unsigned Signed)

abbrev pub step_after : ℕ → ℕ → ℕ
step_after mode step = cond (eqb step 0) 1 (cond (eqb step 1 && has_step2 mode) 2 3)

-- "steps 0 and 1 fill from byte 0, step 2 fills from byte 4,096, each at most 4,096 bytes"; since request 7 the object buffer is "4,096 as now, then 16,384 for step 2".
-- `base_of` and `capacity` do not unfold by themselves either.
abbrev pub usual_capacity : ℕ
usual_capacity = 4096

abbrev pub picture_capacity : ℕ
picture_capacity = 16384

unfoldable pub base_of : ℕ → ℕ
base_of step = cond (eqb step 2) usual_capacity 0

-- The most that a step may hold, by mode and step: "Cause 18 in step 2 comes past 16,384 in modes 5 and 6, past 4,096 in modes 3 and 4 as before."
unfoldable pub capacity : ℕ → ℕ → ℕ
capacity mode step = cond (eqb step 2 && reads_picture mode) picture_capacity usual_capacity

-- "the stated limit becomes 8,196 for a step" (document 02, request 1): one without data, then one a byte, and one that ends the reading, which are document 01's 4,098;
-- and a 6C before each. "The answer limit for step 2 of the two new modes becomes 32,772, by the same count" (request 7). `answers_figures`, proofs/FigureLaws.antt, has all of them.
abbrev pub answers_most : ℕ → ℕ → ℕ
answers_most mode step = 2 * (capacity mode step + 2)

-- Step k has ended well where a later step is reached; step 2 only in a mode that has it.
abbrev pub step_read : ℕ → ℕ → ℕ → Bool
step_read mode step k = ltb k step && (not (eqb k 2) || has_step2 mode)

-- The tags that a field call may ask for: of step 1's object 30, 34, 35, 3E and, since request 5 of document 02, "The field call also gives their parts", EE, 31, 32, 33;
-- of step 2's BC.
abbrev pub step1_tags : List ℕ
step1_tags = buffer_length_tag ∷ fascn_tag ∷ agency_tag ∷ organization_tag ∷ duns_tag ∷ guid_tag ∷ expiry_tag ∷ signature_tag ∷ []

abbrev pub step2_tags : List ℕ
step2_tags = biometric_tag ∷ []

-- The step whose object has the field with such a tag; 0 for another tag.
unfoldable pub step_of_tag : ℕ → ℕ
step_of_tag tag = cond (is_in tag step1_tags) 1 (cond (is_in tag step2_tags) 2 0)

-- ---- commands and answers

-- The command that is next: that of the step, SELECT or GET DATA; GET RESPONSE with the second status byte of the answer just taken; or, after a 6C, "the same one with its
-- last byte replaced by the second status byte".
pub data NextCommand : Type 0 where
  of_step : NextCommand
  get_response : (second : ℕ) → NextCommand
  again : (command : NextCommand) (last : ℕ) → NextCommand

-- Its bytes, in steps 0 to 2; at step 3 there is nothing to send (refusal 5).
unfoldable pub command_bytes : ℕ → List ℕ → ℕ → NextCommand → List ℕ
command_bytes mode aid step NextCommand.of_step = cond (eqb step 0) (select_bytes aid) (get_data_bytes (kind_at mode step))
command_bytes mode aid step (NextCommand.get_response second) = get_response_bytes second
command_bytes mode aid step (NextCommand.again command last) = with_last (command_bytes mode aid step command) last

-- The command is GET RESPONSE, with whatever last byte.
abbrev pub is_response : NextCommand → Bool
is_response NextCommand.of_step = false
is_response (NextCommand.get_response second) = true
is_response (NextCommand.again command last) = is_response command

-- The command is one that is sent again. As long as the reading has not ended, that is where the answer taken last was a 6C (`after_answer`, proofs/CorrectionLaws.antt).
abbrev pub is_sent_again : NextCommand → Bool
is_sent_again NextCommand.of_step = false
is_sent_again (NextCommand.get_response second) = false
is_sent_again (NextCommand.again command last) = true

-- "An answer is data, then two status bytes"; "answer under 2 or over 258 bytes" is refused.
abbrev pub status_size : ℕ
status_size = 2

abbrev pub answer_most : ℕ
answer_most = 258

abbrev pub data_of : List ℕ → List ℕ
data_of answer = take (length answer - status_size) answer

abbrev pub status_bytes : List ℕ → List ℕ
status_bytes answer = drop (length answer - status_size) answer

-- Rule 1: "Status neither 90 00 nor 61 with any second byte"; and of 6C, by the command that it answers and the bytes of its data, "A second 6C straight after the first is
-- cause 16, and so is a 6C with data" (document 02, request 1).
abbrev pub wrong_status : Status → NextCommand → ℕ → Bool
wrong_status Done command n = false
wrong_status (More second) command n = false
wrong_status (Again last) command n = is_sent_again command || not (eqb n 0)
wrong_status Other command n = true

-- 61 with any second byte.
abbrev pub is_more : Status → Bool
is_more Done = false
is_more (More second) = true
is_more (Again last) = false
is_more Other = false

-- Rules 1 to 3, the first that fits: the cause that an answer with n bytes of data gives in a step that has `total` bytes and may have `most`, by its
-- status and the command that it answers; 0 where the data is appended.
unfoldable pub rule_cause : Status → NextCommand → ℕ → ℕ → ℕ → ℕ
rule_cause status command n total most =
    refusal_of
    ((status_cause, wrong_status status command n) ∷ (empty_cause, (is_more status && eqb n 0) && is_response command) ∷ (full_cause, ltb most (total + n)) ∷ [])

-- A byte of the status word that is kept and stamped: "00 00 unless cause 16".
abbrev pub status_shown : ℕ → ℕ → ℕ
status_shown cause sw = cond (eqb cause status_cause) sw 0

-- The FASC-N, its digits and key, and the expiry in the joined data of step 1.
abbrev pub fascn_read : ℕ → List ℕ → List ℕ
fascn_read mode joined = field_value (kind_at mode 1) fascn_tag joined

abbrev pub digits_read : ℕ → List ℕ → List ℕ
digits_read mode joined = (unpack_of (fascn_read mode joined)).1

abbrev pub key_read : ℕ → List ℕ → ℕ
key_read mode joined = key_of (digits_read mode joined)

abbrev pub expiry_read : ℕ → List ℕ → ℕ
expiry_read mode joined = (date_of (field_value (kind_at mode 1) expiry_tag joined)).1

-- "Step 1's good end sets check 3 and check 4", by its joined data.
abbrev pub judged_outcomes : ℕ → ℕ → List ℕ → List ℕ → List ℕ → List ℕ
judged_outcomes mode date outcomes joined cancelled =
    with_outcome (with_outcome outcomes 3 (expiry_outcome date (expiry_read mode joined))) 4 (list_outcome (key_read mode joined) cancelled)

-- "After 90 00 the step's joined data is judged: template malformed, cause 19; object malformed, 20; FASC-N ill-formed, 21; date ill-formed, 22"; 0 where it is
-- good, and the next step begins.
unfoldable pub object_cause : ℕ → ℕ → List ℕ → ℕ
object_cause mode step joined =
    refusal_of
    ((malformed_object, not (eqb (object_of (kind_at mode step) joined).0 0))
    ∷ (fascn_cause, eqb step 1 && not (eqb (unpack_of (fascn_read mode joined)).0 0))
    ∷ (ill_formed_date, eqb step 1 && not (eqb (date_of (field_value (kind_at mode 1) expiry_tag joined)).0 0))
    ∷ [])

unfoldable pub joined_cause : ℕ → ℕ → List ℕ → ℕ
joined_cause mode step joined = cond (eqb step 0) (template_of joined) (object_cause mode step joined)

-- ---- the stamp

-- A number of four bytes, high byte first.
abbrev pub four_bytes : ℕ → List ℕ
four_bytes n = n / 16777216 % 256 ∷ n / 65536 % 256 ∷ n / 256 % 256 ∷ n % 256 ∷ []

-- "Stamp, 45 bytes: mode, standing, cause, status word (2 bytes), step, outcomes (6), opening date as a number, high byte first (4), FASC-N (25), expiry likewise (4)." "The stamp
-- becomes 46 bytes, with outcome 7 after outcome 6" (document 02, request 7).
abbrev pub head_size : ℕ
head_size = 6

abbrev pub number_size : ℕ
number_size = 4

unfoldable pub stamp_size : Figures → ℕ
stamp_size f = head_size + f.checks + number_size + fascn_bytes + number_size

abbrev pub head_of : ℕ → ℕ → ℕ → ℕ → ℕ → ℕ → List ℕ
head_of mode standing cause sw1 sw2 step = mode ∷ standing ∷ cause ∷ sw1 ∷ sw2 ∷ step ∷ []

unfoldable pub stamp_layout : List ℕ → List ℕ → ℕ → List ℕ → ℕ → List ℕ
stamp_layout head outcomes date fascn expiry = (((head ++ outcomes) ++ four_bytes date) ++ fascn) ++ four_bytes expiry
