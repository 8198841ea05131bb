-- What each call may decline (document 01; document 02, requests 6 and 7): the conditions of each call with their numbers, in the order shown. Number 4, "session dead or out of range", stands
-- before them where a session is asked, and is not among them. "Numbers 1, 6, 7 and 10 read with the new figures" (request 7): where a condition has one, the figures come first.
-- Assumes nothing.
use Rattle.std.specs.Prelude.{Bool, not, ◌&&◌, ◌||◌, List, [], ◌∷◌, ◌++◌, ℕ, eqb, ltb, leb}
use Rattle.card.specs.Fascn.{unpack_of}
use Rattle.card.specs.Date.{real_date}
use Rattle.card.specs.Command.{aid_refused}
use Rattle.session.specs.Tables.{Figures, mode_opens, good_kind, needs, check_served, outcome_of, awaited, ends, step_of_tag, step_read, status_size, answer_most, stamp_size}

-- Open: 1 mode not 1–4, since request 7 not 1–6; 2 date not real; 3 AID not 5–16 bytes.
abbrev pub open_conditions : Figures → ℕ → ℕ → List ℕ → List (ℕ × Bool)
open_conditions f mode date aid = (1, not (mode_opens f mode)) ∷ (2, not (real_date date)) ∷ (3, aid_refused aid) ∷ []

-- Nothing is left to read: all is read, or a cause of 16 to 22 ended the reading.
abbrev pub nothing_left : ℕ → ℕ → Bool
nothing_left step cause = eqb step 3 || ends cause

-- "nothing to send: step 3, a cause of 16 to 22, or a command outstanding"
abbrev pub nothing_to_send : ℕ → ℕ → Bool → Bool
nothing_to_send step cause outstanding = nothing_left step cause || outstanding

-- Command: 5 nothing to send; 6 buffer shorter than the command.
abbrev pub command_conditions : ℕ → ℕ → Bool → ℕ → ℕ → List (ℕ × Bool)
command_conditions step cause outstanding room count =
    (5, nothing_to_send step cause outstanding) ∷ (6, ltb room count) ∷ []

-- Answer: 5 no command outstanding; 7 object buffer not 8,192 bytes, since request 7 not 20,480; 8 answer under 2 or over 258 bytes.
abbrev pub answer_conditions : Figures → Bool → ℕ → ℕ → List (ℕ × Bool)
answer_conditions f outstanding size n =
    (5, not outstanding) ∷ (7, not (eqb size f.object_size)) ∷ (8, not (leb status_size n && leb n answer_most)) ∷ []

-- Verdict: 9 step not 3; 10 kind not 1–4, since request 7 not 1–5; 11 verdict not 0 (no) or 1 (yes); 12 not 25 bytes or ill-formed FASC-N; 13 mode doesn't need it; 14 that kind already given
-- (its outcome isn't 1).
abbrev pub verdict_conditions : Figures → ℕ → ℕ → List ℕ → ℕ → ℕ → List ℕ → List (ℕ × Bool)
verdict_conditions f mode step outcomes kind yes_no fascn =
    (9, not (eqb step 3))
    ∷ (10, not (good_kind f kind))
    ∷ (11, not (leb yes_no 1))
    ∷ (12, not (eqb (unpack_of fascn).0 0))
    ∷ (13, not (needs mode (check_served kind)))
    ∷ (14, not (eqb (outcome_of outcomes (check_served kind)) awaited))
    ∷ []

-- Field: "the empty part, no number, for refusal 4 or 7, another tag, or a field not yet read or absent. A field is read from the good end of its step on." 4 comes before
-- these; an absent field is empty by itself.
abbrev pub field_refused : Figures → ℕ → ℕ → ℕ → ℕ → Bool
field_refused f mode step size tag = not (eqb size f.object_size) || (eqb (step_of_tag tag) 0 || not (step_read mode step (step_of_tag tag)))

-- Stamp: 6 buffer under 45 bytes, since request 7 under 46.
abbrev pub stamp_conditions : Figures → ℕ → List (ℕ × Bool)
stamp_conditions f room = (6, ltb room (stamp_size f)) ∷ []

-- Preview (document 02, request 6): "those of the verdict call and then number 6".
abbrev pub preview_conditions : Figures → ℕ → ℕ → List ℕ → ℕ → ℕ → List ℕ → ℕ → List (ℕ × Bool)
preview_conditions f mode step outcomes kind yes_no fascn room = verdict_conditions f mode step outcomes kind yes_no fascn ++ stamp_conditions f room
