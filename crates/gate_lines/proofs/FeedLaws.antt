-- A part of a block fed, and the end of the input: what the functions give is what the definitions say of the bytes. Assumes nothing.
use mathlib.Core.Path.{◌≡◌, refl, sym, ap, subst, ◌∙◌}
use mathlib.Core.List.{List, [], ◌∷◌}
use Prim.Native.Nat.{ℕ, ◌+◌, ◌-◌, ◌≤◌, ◌<◌}
use native.Mathlib.Omega.{arith}
use native.Mathlib.Nat.{add-zero}
use borrow.Author.Tests.{ne_eqb, lt-ltb, le-ltb}
use lib.ListN.{length, take, drop, drop_of_length-le}
use Rattle.common.specs.Bytes.{index_after, index_of}
use Rattle.append.specs.Append.{added}
use Rattle.gate_lines.specs.Line.{line_in}
use Rattle.gate_lines.specs.Gate.{Gate, gate_after, reply_to, reply_text}
use Rattle.gate_lines.specs.Input.{InputState, most_held, input_after, text_of_input, last_gate, last_text, FeedPromise, LastPromise}
use Rattle.gate_lines.specs.InputCode.{used_after, part_from}
use Rattle.gate_lines.proofs.InputLaws.{part_run, part_line, feed_promise, last_promise}

-- ---- a part of a block

-- What a call of `feed_line` promises: the state m before and n after, the part of the block that is used, and what is printed.
pub record FedBy (m n : InputState) (part text : List ℕ) : Type 0 where
  pub state : n ≡ input_after m part
  pub prints : text ≡ text_of_input m part
  pub for_every_input : FeedPromise m part text

fed_by : (m n : InputState) (part text : List ℕ) → n ≡ input_after m part → text ≡ text_of_input m part → FedBy m n part text
fed_by m n part text e f = record { state = e; prints = f; for_every_input = feed_promise m part text f }

-- nothing is left of the block
pub none_fed : (m : InputState) (block text : List ℕ) (from : ℕ) → text ≡ [] → FedBy m m (part_from block from from) text
unfolding part_from input_after text_of_input
none_fed m block text from e = let z : from - from ≡ 0 = omega arith in fed_by m m (part_from block from from) text (rw z) (rw (z, e))

-- the block ends first: its bytes are held
pub run_fed : (g : Gate) (line held block text : List ℕ) (from end : ℕ) {m : InputState} → record { gate = g; held = line } ≡ m → length line ≤ most_held
    → end ≡ from + index_of 0x0A (drop from block) → held ≡ added most_held line (take (end - from) (drop from block)) → text ≡ []
    → FedBy m (record { gate = g; held = held }) (part_from block from end) text
unfolding added
run_fed g line held block text from end v l e h t =
    let m : InputState = record { gate = g; held = line } in
    let w = part_run m block from end l e in
    subst (λ (x : InputState). FedBy x (record { gate = g; held = held }) (part_from block from end) text) v
    (fed_by m _ (part_from block from end) text (ap (λ (x : List ℕ). record { gate = g; held = x }) h ∙ sym w.0) (t ∙ sym w.1))

-- a 0A ends the line: it is carried out
pub line_fed : (g : Gate) (line held block text : List ℕ) (from end : ℕ) {m n : InputState} → record { gate = g; held = line } ≡ m → length line ≤ most_held
    → end ≡ from + index_of 0x0A (drop from block) → end < length block → held ≡ added most_held line (take (end - from) (drop from block))
    → n ≡ record { gate = gate_after g (line_in held); held = [] } → text ≡ reply_text (reply_to g (line_in held)) → FedBy m n (part_from block from (end + 1)) text
unfolding added
line_fed g line held block text from end {m} {n} v l e b h p q =
    let k : InputState = record { gate = g; held = line } in
    let w = part_line k block from end l e b in
    subst (λ (x : InputState). FedBy x n (part_from block from (end + 1)) text) v
    (fed_by k n (part_from block from (end + 1)) text
    (p ∙ ap (λ (x : List ℕ). record { gate = gate_after g (line_in x); held = [] }) h ∙ sym w.0)
    (q ∙ ap (λ (x : List ℕ). reply_text (reply_to g (line_in x))) h ∙ sym w.1))

-- ---- how far the block is used

-- nothing is left of the block
pub none_used : (block : List ℕ) (from : ℕ) → length block ≤ from → from ≡ used_after block from
unfolding used_after index_of index_after
none_used block from h =
    let n : drop from block ≡ [] = drop_of_length-le block h in
    rw (n, le-ltb (from + 0) (length block) (omega arith), add-zero from) refl

-- the block ends first
pub run_used : (block : List ℕ) (from end : ℕ) → end ≡ from + index_of 0x0A (drop from block) → length block ≤ end → end ≡ used_after block from
unfolding used_after
run_used block from end e h = rw (← e, le-ltb end (length block) h) refl

-- a 0A ends the line
pub line_used : (block : List ℕ) (from end : ℕ) → end ≡ from + index_of 0x0A (drop from block) → end < length block → end + 1 ≡ used_after block from
unfolding used_after
line_used block from end e h = rw (← e, lt-ltb end (length block) h) refl

-- ---- the end of the input

-- What a call of `last` promises.
pub record LastBy (m n : InputState) (text : List ℕ) : Type 0 where
  pub state : n ≡ record { gate = last_gate m; held = [] }
  pub prints : text ≡ last_text m
  pub for_every_input : LastPromise m text

last_by : (m n : InputState) (text : List ℕ) → n ≡ record { gate = last_gate m; held = [] } → text ≡ last_text m → LastBy m n text
last_by m n text e f = record { state = e; prints = f; for_every_input = last_promise m text f }

-- nothing is held
none_held : (g : Gate) (line text : List ℕ) → length line ≡ 0 → text ≡ [] → LastBy (record { gate = g; held = line }) (record { gate = g; held = line }) text
unfolding last_gate last_text
none_held g [] text e t = last_by (record { gate = g; held = [] }) (record { gate = g; held = [] }) text refl t
none_held g (b ∷ s) text e t = absurd (omega (arith, e))

pub none_last : (g : Gate) (line text : List ℕ) {m : InputState} → record { gate = g; held = line } ≡ m → length line ≡ 0 → text ≡ [] → LastBy m m text
none_last g line text v e t = subst (λ (x : InputState). LastBy x x text) v (none_held g line text e t)

-- a line that lacks its 0A
pub line_last : (m n : InputState) (text : List ℕ) → (length m.held ≡ 0 → ⊥) → n ≡ record { gate = gate_after m.gate (line_in m.held); held = [] }
    → text ≡ reply_text (reply_to m.gate (line_in m.held)) → LastBy m n text
unfolding last_gate last_text
line_last m n text h p q = let some = ne_eqb (length m.held) 0 h in last_by m n text (rw some p) (rw some q)
