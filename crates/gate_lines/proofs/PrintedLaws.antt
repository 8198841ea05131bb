-- What a line prints, for every list of lines before it: an answer and a verdict by the number that the reading of the calls since the last accepted opening gives them.
-- Assumes nothing.
use mathlib.Core.Path.{◌≡◌, refl, sym, ap, ap₂, ◌∙◌}
use mathlib.Core.List.{List, [], ◌∷◌, ◌++◌, map}
use Prim.Native.Nat.{ℕ}
use lib.ListN.{length}
use Rattle.common.specs.Refusal.{refusal_of}
use Rattle.session.specs.Tables.{since}
use Rattle.session.specs.Condition.{open_conditions}
use Rattle.session.specs.Operation.{dead, opened, open_refusal, open_of, command_of, answer_of, verdict_of}
use Rattle.session.specs.Reading.{Opening, begins, refused_by, reading}
use Rattle.session.specs.Promise.{Call, arguments_of, Host, call_number}
use Rattle.session.specs.declared.state.Session.{Session}
use Rattle.session.proofs.RefusedLaws.{answer_unchanged, verdict_unchanged, answer_dead, verdict_dead}
use Rattle.session.proofs.RunLaws.{zero_or}
use Rattle.session.proofs.PromiseLaws.{number_next}
use Rattle.gate_lines.specs.Line.{GateLine, line_in}
use Rattle.gate_lines.specs.Gate.{Gate, gate_after, command_room, fresh, Reply, reply_by, reply_to, reply_text}
use Rattle.gate_lines.specs.Run.{run_lines, printed, output, command_call, SinceOpen, since_line, since_open, with_calls, ReachedBy, Reached, number_for, reply_for, printed_for, end_for, ReplyPromise}
use Rattle.gate_lines.proofs.AnswerLineLaws.{answer_line_number}
use Rattle.gate_lines.proofs.RunLaws.{command_reached, refused_by_four, command_leaves, line_reaches, line_bytes, run_reaches, run_end}

-- ---- a call made next

pub number_reached : (o : Opening) (b : List ℕ) (cs : List Call) (g : Gate) (c : Call) → ReachedBy o b cs g
    → call_number (record { session = g.session; object = g.object }) c ≡ refused_by (reading (begins since o) (map arguments_of cs)) (arguments_of c)
number_reached o b cs g c l =
    ap (λ (x : Host). call_number x c) (sym l.host) ∙ number_next l.history c
    ∙ ap₂ (λ (p : Opening) (q : List Call). refused_by (reading (begins since p) (map arguments_of q)) (arguments_of c)) l.opening l.made

-- on the dead session: 4
dead_answer : (object bytes keys : List ℕ) → (answer_of dead object bytes keys).0 ≡ 4
dead_answer object bytes keys =
    let four = answer_dead (length object) (length bytes) in
    ap (λ (x : ℕ × Session). x.0) (answer_unchanged dead object bytes keys (refused_by_four four)).0 ∙ four

dead_verdict : (kind yes_no : ℕ) (fascn : List ℕ) → (verdict_of dead kind yes_no fascn).0 ≡ 4
dead_verdict kind yes_no fascn =
    let four = verdict_dead kind yes_no fascn in
    ap (λ (x : ℕ × Session). x.0) (verdict_unchanged dead kind yes_no fascn (refused_by_four four)) ∙ four

-- ---- the number of a line

-- an opening's, by its conditions
opening_number : (mode date : ℕ) (aid : List ℕ) → (open_of mode date aid).0 ≡ refusal_of (open_conditions since mode date aid)
unfolding open_of open_refusal
opening_number mode date aid = zero_or (open_refusal mode date aid) (opened mode date aid) dead _ refl

-- an answer's, after the command call
answer_number : (t : SinceOpen) (u : Gate) (object bytes keys : List ℕ) → Reached t u
    → (answer_of (command_of u.session command_room).2 object bytes keys).0 ≡ number_for (with_calls t (command_call ∷ [])) (Call.answer object bytes keys)
answer_number SinceOpen.none u object bytes keys l =
    ap (λ (s : Session). (answer_of s object bytes keys).0) (command_leaves u.session object l) ∙ dead_answer object bytes keys
answer_number (SinceOpen.from o b cs) u object bytes keys l =
    number_reached o b (cs ++ (command_call ∷ [])) (record { session = (command_of u.session command_room).2; keys = u.keys; object = u.object }) (Call.answer object bytes keys) (command_reached o b cs u l)

verdict_number : (t : SinceOpen) (u : Gate) (kind yes_no : ℕ) (fascn : List ℕ) → Reached t u → (verdict_of u.session kind yes_no fascn).0 ≡ number_for t (Call.verdict kind yes_no fascn)
verdict_number SinceOpen.none u kind yes_no fascn l = ap (λ (s : Session). (verdict_of s kind yes_no fascn).0) l ∙ dead_verdict kind yes_no fascn
verdict_number (SinceOpen.from o b cs) u kind yes_no fascn l = number_reached o b cs u (Call.verdict kind yes_no fascn) l

-- ---- what a line prints

-- on the session that was reached, whatever else it is lent
pub reply_reached : (t : SinceOpen) (u g : Gate) (line : GateLine) → Reached t u → g.session ≡ u.session → reply_to g line ≡ reply_for t g line
unfolding reply_to
reply_reached t u g (GateLine.card key) l e = refl
reply_reached t u g (GateLine.opening mode date aid) l e = ap reply_by (opening_number mode date aid)
reply_reached t u g (GateLine.answer bytes) l e =
    ap (λ (s : Session). reply_by (answer_of (command_of s command_room).2 g.object bytes g.keys).0) e ∙ ap reply_by (answer_number t u g.object bytes g.keys l ∙ answer_line_number t u g.object bytes g.keys l)
reply_reached t u g (GateLine.verdict kind yes_no fascn) l e =
    ap (λ (s : Session). reply_by (verdict_of s kind yes_no fascn).0) e ∙ ap reply_by (verdict_number t u kind yes_no fascn l)
reply_reached t u g GateLine.bad l e = refl

-- as the contract of the code carries it
pub reply_promise : (g : Gate) (line : GateLine) (reply : Reply) → reply ≡ reply_to g line → ReplyPromise g line reply
reply_promise g line reply e object ls from =
    let t = since_open (fresh object) ls in
    let u = run_lines (fresh object) ls in
    let r : reply ≡ reply_for t g line = e ∙ reply_reached t u g line (run_reaches object ls) from in
    record {
      is = r;
      answer = λ bytes q. r ∙ ap (reply_for t g) q ∙ ap reply_by (sym (answer_line_number t u g.object bytes g.keys (run_reaches object ls)));
    }

-- ---- what a list of lines prints

printed_reached : (ls : List (List ℕ)) (g : Gate) (t : SinceOpen) → Reached t g → printed g ls ≡ printed_for g t ls
unfolding printed printed_for
printed_reached [] g t l = refl
printed_reached (x ∷ ls) g t l =
    ap₂ (λ (r : Reply) (s : List ℕ). reply_text r ++ s) (reply_reached t g g (line_in x) l refl)
    (printed_reached ls (gate_after g (line_in x)) (since_line g t (line_in x)) (line_reaches g t (line_in x) (line_bytes x) l))

pub run_printed : (object : List ℕ) (ls : List (List ℕ)) → printed (fresh object) ls ≡ printed_for (fresh object) SinceOpen.none ls
run_printed object ls = printed_reached ls (fresh object) SinceOpen.none refl

-- all that the program prints, by the reading
pub run_output : (object : List ℕ) (ls : List (List ℕ)) → output (fresh object) ls ≡ printed_for (fresh object) SinceOpen.none ls ++ end_for (since_open (fresh object) ls)
unfolding output
run_output object ls = ap₂ (λ (a b : List ℕ). a ++ b) (run_printed object ls) (run_end object ls)
