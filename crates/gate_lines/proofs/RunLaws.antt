-- For every list of lines: where an opening was accepted, the session and the object buffer are those of the history with that opening and with the calls that the
-- lines since made; so what is printed at the end is the stamp of demand 3. Where none was, the session is dead, and that is refused by 4.
-- Assumes nothing.
use mathlib.Core.Path.{◌≡◌, refl, sym, ap, subst, ◌∙◌}
use mathlib.Core.Bool.{Bool, true, false, cond}
use mathlib.Core.List.{List, [], ◌∷◌, ◌++◌, append_assoc}
use Prim.Native.Nat.{ℕ}
use native.Mathlib.Nat.{le_of_eq}
use native.Mathlib.Omega.{arith}
use borrow.Author.Tests.{eqb-true, eq-eqb}
use lib.Dec.{eqb, ltb}
use lib.ListN.{length, drop, replicate}
use Rattle.common.specs.Refusal.{refusal_of}
use Rattle.session.specs.Tables.{Figures, since, stamp_size}
use Rattle.session.specs.Condition.{stamp_conditions}
use Rattle.session.specs.Operation.{dead, opened, open_refusal, open_of, command_of, answer_refusal, answer_of, answer_buffer, verdict_of, stamp_answer, stamp_buffer}
use Rattle.session.specs.Reading.{Opening, Arguments, refused_by}
use Rattle.session.specs.Finding.{finding, stamp_of}
use Rattle.session.specs.Promise.{Call, Host, host_after, Bytes, LentNow, History, finish, reading_of}
use Rattle.session.specs.declared.state.Session.{Session}
use Rattle.session.proofs.HistoryLaws.{extended}
use Rattle.session.proofs.CallPromiseLaws.{opening_begins}
use Rattle.session.proofs.RefusedLaws.{command_unchanged, answer_unchanged, verdict_unchanged, command_dead, answer_dead, verdict_dead, stamp_dead}
use Rattle.session.proofs.StampLaws.{stamp_length}
use Rattle.common.proofs.StoreLaws.{front_all}
use Rattle.session.proofs.PromiseLaws.{reached, promise}
use Rattle.session.proofs.RunLaws.{zero_or}
use Rattle.common.proofs.TestLaws.{by_test, either}
use Rattle.text.specs.Hex.{bytes_in}
use Rattle.common.specs.Decimal.{spelled}
use Rattle.text.proofs.HexLaws.{bytes_small}
use Rattle.ccl.specs.Line.{good_card, line_key}
use Rattle.gate_lines.specs.Line.{GateLine, longest, open_lowest, open_highest, answer_opens, verdict_lowest, verdict_highest, hex_from, headed, call_in, line_in}
use Rattle.gate_lines.specs.Gate.{Gate, gate_after, has_room, command_room, fresh, end_text}
use Rattle.gate_lines.specs.Run.{run_lines, command_call, SinceOpen, since_line, since_lines, since_open, ReachedBy, Reached, end_for, EndPromise}

-- ---- one call more

reached_on : (o : Opening) (b : List ℕ) (cs : List Call) (g u : Gate) (c : Call) → ReachedBy o b cs g
    → LentNow (record { session = g.session; object = g.object }) c
    → host_after (record { session = g.session; object = g.object }) c ≡ record { session = u.session; object = u.object }
    → ReachedBy o b (cs ++ (c ∷ [])) u
reached_on o b cs g u c l k e =
    let n = extended l.history c u.session u.object (subst (λ (x : Host). LentNow x c) (sym l.host) k) (ap (λ (x : Host). host_after x c) l.host ∙ e) in
    record {
      history = n.history;
      opening = n.opening ∙ l.opening;
      buffer = n.buffer ∙ l.buffer;
      made = n.calls ∙ ap (λ (x : List Call). x ++ (c ∷ [])) l.made;
      host = n.host;
    }

-- ---- a line of each kind

-- the bytes that a line gives to an answer call are bytes
abbrev pub LineBytes : GateLine → Type 0
LineBytes (GateLine.card key) = Unit
LineBytes (GateLine.opening mode date aid) = Unit
LineBytes (GateLine.answer bytes) = Bytes bytes
LineBytes (GateLine.verdict kind yes_no fascn) = Unit
LineBytes GateLine.bad = Unit

-- the choice of a refused answer, made twice
twice : {A : Type 0} (b : Bool) (x y : A) → cond b (cond b x y) y ≡ cond b x y
twice true x y = refl
twice false x y = refl

buffer_is : (s : Session) (object bytes : List ℕ)
    → cond (eqb (answer_refusal s (length object) (length bytes)) 0) (answer_buffer s object bytes) object ≡ answer_buffer s object bytes
unfolding answer_buffer
buffer_is s object bytes = twice (eqb (answer_refusal s (length object) (length bytes)) 0) _ object

-- the command call that is made before an answer
pub command_reached : (o : Opening) (b : List ℕ) (cs : List Call) (g : Gate) → ReachedBy o b cs g
    → ReachedBy o b (cs ++ (command_call ∷ [])) (record { session = (command_of g.session command_room).2; keys = g.keys; object = g.object })
command_reached o b cs g l = reached_on o b cs g _ command_call l tt refl

-- an answer line makes two calls
answer_reached : (o : Opening) (b : List ℕ) (cs : List Call) (g : Gate) (bytes : List ℕ) → Bytes bytes → ReachedBy o b cs g
    → ReachedBy o b (cs ++ (command_call ∷ Call.answer g.object bytes g.keys ∷ [])) (gate_after g (GateLine.answer bytes))
unfolding gate_after
answer_reached o b cs g bytes k l =
    let taken =
    reached_on o b (cs ++ (command_call ∷ [])) _ (gate_after g (GateLine.answer bytes)) (Call.answer g.object bytes g.keys) (command_reached o b cs g l) ((λ z. refl), k)
    (ap (λ (x : List ℕ). record { session = (gate_after g (GateLine.answer bytes)).session; object = x }) (buffer_is (command_of g.session command_room).2 g.object bytes)) in
    subst (λ (x : List Call). ReachedBy o b x (gate_after g (GateLine.answer bytes))) (append_assoc cs _ _) taken

-- ---- no session is open

-- every call on the dead session is refused, and leaves it dead
pub refused_by_four : {k : ℕ} → k ≡ 4 → k ≡ 0 → ⊥
refused_by_four e z = omega (arith, e, z)

pub command_leaves : (s : Session) (object : List ℕ) → s ≡ dead → (command_of s command_room).2 ≡ dead
command_leaves s object e =
    ap (λ (x : Session). (command_of x command_room).2) e
    ∙ ap (λ (x : ℕ × ℕ × Session). x.2) (command_unchanged dead (replicate command_room 0) (refused_by_four (command_dead command_room))).0

answer_leaves : (s : Session) (object bytes keys : List ℕ) → s ≡ dead → (answer_of s object bytes keys).1 ≡ dead
answer_leaves s object bytes keys e =
    ap (λ (x : Session). (answer_of x object bytes keys).1) e
    ∙ ap (λ (x : ℕ × Session). x.1) (answer_unchanged dead object bytes keys (refused_by_four (answer_dead (length object) (length bytes)))).0

verdict_leaves : (s : Session) (kind yes_no : ℕ) (fascn : List ℕ) → s ≡ dead → (verdict_of s kind yes_no fascn).1 ≡ dead
verdict_leaves s kind yes_no fascn e =
    ap (λ (x : Session). (verdict_of x kind yes_no fascn).1) e
    ∙ ap (λ (x : ℕ × Session). x.1) (verdict_unchanged dead kind yes_no fascn (refused_by_four (verdict_dead kind yes_no fascn)))

-- ---- one line

-- an accepted opening begins a history
opening_reached : (g : Gate) (mode date : ℕ) (aid : List ℕ) → (open_of mode date aid).0 ≡ 0
    → ReachedBy (record { mode = mode; date = date; aid = aid }) g.object [] (record { session = (open_of mode date aid).1; keys = g.keys; object = g.object })
unfolding open_of
opening_reached g mode date aid e =
    let k : open_refusal mode date aid ≡ 0 = sym (zero_or (open_refusal mode date aid) (opened mode date aid) dead _ refl) ∙ e in
    let n = opening_begins mode date aid g.object k in
    let same : opened mode date aid ≡ (open_of mode date aid).1 = rw (eq-eqb _ _ k) in
    record {
      history = n.history;
      opening = n.opening;
      buffer = n.buffer;
      made = n.calls;
      host = n.host ∙ ap (λ (x : Session). record { session = x; object = g.object }) same;
    }

-- the cards take no part in it
reached_keys : (t : SinceOpen) (g : Gate) (keys : List ℕ) → Reached t g → Reached t (record { session = g.session; keys = keys; object = g.object })
reached_keys SinceOpen.none g keys l = l
reached_keys (SinceOpen.from o b cs) g keys l = record { history = l.history; opening = l.opening; buffer = l.buffer; made = l.made; host = l.host }

pub line_reaches : (g : Gate) (t : SinceOpen) (line : GateLine) → LineBytes line → Reached t g → Reached (since_line g t line) (gate_after g line)
unfolding gate_after
line_reaches g t (GateLine.card key) k l = either (Reached t) (has_room g) (reached_keys t g _ l) l
line_reaches g t (GateLine.opening mode date aid) k l =
    by_test Reached _ _ _ _ (eqb (open_of mode date aid).0 0) (λ e. opening_reached g mode date aid (eqb-true _ _ e)) (λ e. l)
line_reaches g SinceOpen.none (GateLine.answer bytes) k l = answer_leaves _ g.object bytes g.keys (command_leaves g.session g.object l)
line_reaches g (SinceOpen.from o b cs) (GateLine.answer bytes) k l = answer_reached o b cs g bytes k l
line_reaches g SinceOpen.none (GateLine.verdict kind yes_no fascn) k l = verdict_leaves g.session kind yes_no fascn l
line_reaches g (SinceOpen.from o b cs) (GateLine.verdict kind yes_no fascn) k l = reached_on o b cs g _ (Call.verdict kind yes_no fascn) l tt refl
line_reaches g t GateLine.bad k l = l

-- ---- every list of lines

-- what a line gives to an answer call is what HEX spells
bytes_by : (a b c d e : Bool) (key mode date kind yes_no : ℕ) (aid bytes fascn : List ℕ) → Bytes bytes
    → LineBytes (cond a GateLine.bad (cond b (GateLine.card key) (cond c (GateLine.opening mode date aid) (cond d (GateLine.answer bytes) (cond e (GateLine.verdict kind yes_no fascn) GateLine.bad)))))
bytes_by true b c d e key mode date kind yes_no aid bytes fascn k = tt
bytes_by false true c d e key mode date kind yes_no aid bytes fascn k = tt
bytes_by false false true d e key mode date kind yes_no aid bytes fascn k = tt
bytes_by false false false true e key mode date kind yes_no aid bytes fascn k = k
bytes_by false false false false true key mode date kind yes_no aid bytes fascn k = tt
bytes_by false false false false false key mode date kind yes_no aid bytes fascn k = tt

pub line_bytes : (l : List ℕ) → LineBytes (line_in l)
unfolding line_in call_in
line_bytes l =
    bytes_by (ltb longest (length l)) (good_card l) (headed open_lowest open_highest l) (headed answer_opens answer_opens l) (headed verdict_lowest verdict_highest l)
    (line_key l) (spelled 1 (drop 6 l)) (spelled 8 (drop 8 l)) (spelled 1 (drop 9 l)) (spelled 1 (drop 11 l)) (bytes_in (hex_from 17 l)) (bytes_in (hex_from 8 l)) (bytes_in (hex_from 13 l)) (bytes_small (hex_from 8 l))

lines_reach : (ls : List (List ℕ)) (g : Gate) (t : SinceOpen) → Reached t g → Reached (since_lines g t ls) (run_lines g ls)
unfolding since_lines run_lines
lines_reach [] g t l = l
lines_reach (x ∷ ls) g t l = lines_reach ls (gate_after g (line_in x)) (since_line g t (line_in x)) (line_reaches g t (line_in x) (line_bytes x) l)

pub run_reaches : (object : List ℕ) (ls : List (List ℕ)) → Reached (since_open (fresh object) ls) (run_lines (fresh object) ls)
run_reaches object ls = lines_reach ls (fresh object) SinceOpen.none refl

-- ---- what is printed at the end

-- a stamp call on the session of a history, with a buffer of a stamp's size
stamp_of_lem : (h : History) → ((stamp_answer (finish h).session (stamp_size since)).0 ≡ 0) × (stamp_buffer (finish h).session (replicate (stamp_size since) 0) ≡ stamp_of (finding (reading_of h)))
unfolding stamp_size
stamp_of_lem h =
    let p = promise h in
    let a = reached h in
    let out : List ℕ = replicate (stamp_size since) 0 in
    let room : refused_by (reading_of h) (Arguments.stamp (length out)) ≡ 0 = ap (λ (f : Figures). refusal_of (stamp_conditions f (length out))) a.holds.figures in
    (p.stamp_number out ∙ room, p.stamp_bytes out ∙ rw room (front_all _ out (le_of_eq (sym (stamp_length (reading_of h) a.object a.holds)))))

end_reached : (t : SinceOpen) (g : Gate) → Reached t g → end_text g.session ≡ end_for t
unfolding end_text stamp_answer
end_reached SinceOpen.none g l = rw (l, stamp_dead (stamp_size since))
end_reached (SinceOpen.from o b cs) g l =
    let h = l.history in
    let e : (finish h).session ≡ g.session = ap (λ (x : Host). x.session) l.host in
    rw (← e, (stamp_of_lem h).0, (stamp_of_lem h).1, l.opening, l.made)

-- the stamp of demand 3, of the calls that the lines since the last accepted opening made
pub run_end : (object : List ℕ) (ls : List (List ℕ)) → end_text (run_lines (fresh object) ls).session ≡ end_for (since_open (fresh object) ls)
run_end object ls = end_reached (since_open (fresh object) ls) (run_lines (fresh object) ls) (run_reaches object ls)

-- the same as the contract of the code carries it
pub end_promise : (s : Session) (text : List ℕ) → text ≡ end_text s → EndPromise s text
end_promise s text e object ls from = e ∙ ap end_text from ∙ run_end object ls
