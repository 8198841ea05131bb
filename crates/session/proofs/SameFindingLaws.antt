-- What cannot change a finding: where the card cuts its answers, and the order of two verdicts.
-- Assumes nothing.
use mathlib.Core.Path.{◌≡◌, refl}
use mathlib.Core.Bool.{true, false, ◌&&◌}
use mathlib.Core.List.{List, [], ◌∷◌, ◌++◌, append_assoc}
use Prim.Native.Nat.{ℕ, ◌+◌, ◌≤◌}
use native.Mathlib.Omega.{arith}
use borrow.Author.Tests.{le-ltb}
use lib.Dec.{eqb}
use lib.ListN.{length, length-append}
use lib.Seq.{set_comm}
use Rattle.common.specs.Lists.{all, same_bytes}
use Rattle.card.specs.Command.{status_of}
use Rattle.session.specs.Tables.{since, good_kind, capacity, NextCommand, is_response, rule_cause, joined_cause}
use Rattle.session.specs.Reading.{Reading, with_progress, sending, continued, good_end, judged, answer_taken, verdict_taken}
use Rattle.session.specs.Finding.{finding}
use Rattle.common.proofs.TestLaws.{by_test}
use Rattle.session.proofs.OutcomeLaws.{place_of, places_apart}

-- ---- the cutting of answers

-- two readings with the same finding
abbrev Alike : Reading → Reading → Type 0
Alike q r = finding q ≡ finding r

-- the reading once data was appended, GET RESPONSE was next and was sent
abbrev sent_on : Reading → List ℕ → ℕ → Reading
sent_on r joined second = with_progress r (sending (continued r.progress joined (NextCommand.get_response second)))

-- what the judging then gives is what it would have given at once
judged_alike : (r : Reading) (old joined cancelled : List ℕ) (second : ℕ) → Alike (judged (sent_on r old second) joined cancelled) (judged r joined cancelled)
unfolding finding judged good_end
judged_alike r old joined cancelled second =
    by_test Alike _ _ _ _ (eqb (joined_cause r.opening.mode r.progress.step joined) 0)
    (λ _. by_test Alike _ _ _ _ (eqb r.progress.step 0) (λ _. refl) (λ _. by_test Alike _ _ _ _ (eqb r.progress.step 1) (λ _. refl) (λ _. refl)))
    (λ _. refl)

-- an answer of 90 00 that has room is judged with what the step had
done_judged : (r : Reading) (bytes cancelled : List ℕ) → length r.progress.joined + length bytes ≤ capacity r.opening.mode r.progress.step
    → answer_taken r bytes (0x90 ∷ 0x00 ∷ []) cancelled ≡ judged r (r.progress.joined ++ bytes) cancelled
unfolding answer_taken rule_cause status_of same_bytes all
done_judged r bytes cancelled h = rw (le-ltb (capacity r.opening.mode r.progress.step) (length r.progress.joined + length bytes) h)

-- one of 61 that has room, and is not an empty one to GET RESPONSE, is appended
more_continued : (r : Reading) (bytes cancelled : List ℕ) (second : ℕ) → length r.progress.joined + length bytes ≤ capacity r.opening.mode r.progress.step → eqb (length bytes) 0 && is_response r.progress.next ≡ false
    → answer_taken r bytes (0x61 ∷ second ∷ []) cancelled ≡ with_progress r (continued r.progress (r.progress.joined ++ bytes) (NextCommand.get_response second))
unfolding answer_taken rule_cause status_of same_bytes all
more_continued r bytes cancelled second h e = rw (e, le-ltb (capacity r.opening.mode r.progress.step) (length r.progress.joined + length bytes) h)

-- Data that comes in one answer, or cut in two at any place with GET RESPONSE between, whatever the second byte of the 61 is and whichever list was lent with it, gives one finding.
-- By this every cutting of a step's data comes to the answer that has it whole.
pub cut_anywhere : (r : Reading) (xs ys cancelled other : List ℕ) (second : ℕ) → length r.progress.joined + length xs + length ys ≤ capacity r.opening.mode r.progress.step
    → eqb (length xs) 0 && is_response r.progress.next ≡ false
    → let cut = answer_taken r xs (0x61 ∷ second ∷ []) other in
    Alike (answer_taken (with_progress cut (sending cut.progress)) ys (0x90 ∷ 0x00 ∷ []) cancelled) (answer_taken r (xs ++ ys) (0x90 ∷ 0x00 ∷ []) cancelled)
cut_anywhere r xs ys cancelled other second h e =
    let old = r.progress.joined in
    let l : length (old ++ xs) ≡ length old + length xs = length-append old xs in
    let k : length (xs ++ ys) ≡ length xs + length ys = length-append xs ys in
    rw (more_continued r xs other second (omega arith) e, done_judged r (xs ++ ys) cancelled (omega arith), done_judged (sent_on r (old ++ xs) second) ys cancelled (omega arith), append_assoc)
    (judged_alike r (old ++ xs) (old ++ (xs ++ ys)) cancelled second)

-- ---- the order of verdicts

-- Two verdicts of two kinds give one finding in either order.
pub either_order : (r : Reading) (k s l t : ℕ) (f g : List ℕ) → good_kind since k ≡ true → good_kind since l ≡ true → (k ≡ l → ⊥)
    → Alike (verdict_taken (verdict_taken r k s f) l t g) (verdict_taken (verdict_taken r l t g) k s f)
unfolding finding
either_order r k s l t f g p q n = rw (set_comm r.outcomes (place_of k) (place_of l) _ _ (λ z. n (places_apart k l p q z)))
