-- An input in blocks, one byte after another, does and prints what the list of its lines does.
-- Assumes nothing.
use mathlib.Core.Path.{◌≡◌, refl, sym, ap, ap₂, subst, ◌∙◌}
use mathlib.Core.Bool.{Bool, true, false}
use mathlib.Core.List.{List, [], ◌∷◌, ◌++◌, append_assoc, append-nil}
use Prim.Native.Nat.{ℕ, zero, suc, ◌+◌, ◌-◌, ◌≤◌, ◌<◌}
use native.Mathlib.Omega.{arith}
use borrow.Author.Tests.{ne_eqb}
use lib.Dec.{eqb}
use lib.ListN.{length, take, drop, length-take, length-drop}
use lib.Seq.{take_all, take-nil}
use Rattle.common.specs.Bytes.{index_of}
use Rattle.gate_lines.proofs.LineLaws.{line_held}
use Rattle.gate_lines.proofs.PrintedLaws.{run_printed, run_output}
use Rattle.gate_lines.specs.Line.{longest, line_in}
use Rattle.gate_lines.specs.Gate.{Gate, gate_after, reply_to, reply_text, fresh, end_text}
use Rattle.gate_lines.specs.Run.{run_lines, printed, output, SinceOpen, since_open, printed_for, end_for}
use Rattle.gate_lines.specs.Input.{Cut, cut_byte, cut, last_line, cut_of, lines_in, most_held, InputState, input_start, input_after_byte, text_of_byte, input_after, text_of_input, last_gate, last_text, FeedPromise, LastPromise}
use Rattle.gate_lines.specs.InputCode.{part_from}
use Rattle.common.proofs.PlaceLaws.{NoEnd, none_before, with_end}

-- ---- one block after another

pub feed_append : (a b : List ℕ) (m : InputState) → input_after m (a ++ b) ≡ input_after (input_after m a) b
unfolding input_after
feed_append [] b m = refl
feed_append (x ∷ a) b m = feed_append a b (input_after_byte m x)

pub text_append : (a b : List ℕ) (m : InputState) → text_of_input m (a ++ b) ≡ text_of_input m a ++ text_of_input (input_after m a) b
unfolding input_after text_of_input
text_append [] b m = refl
text_append (x ∷ a) b m = ap (λ (t : List ℕ). text_of_byte m x ++ t) (text_append a b (input_after_byte m x)) ∙ sym (append_assoc (text_of_byte m x) _ _)

-- ---- a part of a block without 0A, and with one at its end

-- what is dropped before is dropped after
take_onto : (n : ℕ) (x y : List ℕ) → take n (take n x ++ y) ≡ take n (x ++ y)
take_onto zero x y = refl
take_onto (suc n) [] y = refl
take_onto (suc n) (a ∷ x) y = ap (λ (r : List ℕ). a ∷ r) (take_onto n x y)

abbrev holds : InputState → List ℕ → InputState
holds m s = record { gate = m.gate; held = take most_held (m.held ++ s) }

held_within : (m : InputState) (s : List ℕ) → length (holds m s).held ≤ most_held
held_within m s = omega (arith, length-take most_held (m.held ++ s))

-- bytes that are held after others
holds_on : (m : InputState) (b : ℕ) (s : List ℕ) → holds (holds m (b ∷ [])) s ≡ holds m (b ∷ s)
holds_on m b s =
    ap (λ (l : List ℕ). record { gate = m.gate; held = l })
    (take_onto most_held (m.held ++ (b ∷ [])) s ∙ ap (take most_held) (append_assoc m.held (b ∷ []) s))

pub feed_run : (s : List ℕ) (m : InputState) → NoEnd s → length m.held ≤ most_held → input_after m s ≡ record { gate = m.gate; held = take most_held (m.held ++ s) }
unfolding input_after
feed_run [] m n h = ap (λ (l : List ℕ). record { gate = m.gate; held = l }) (sym (ap (take most_held) (append-nil m.held) ∙ take_all most_held m.held h))
feed_run (b ∷ s) m n h = rw n.0 (feed_run s (holds m (b ∷ [])) n.1 (held_within m (b ∷ [])) ∙ holds_on m b s)

pub run_text : (s : List ℕ) (m : InputState) → NoEnd s → text_of_input m s ≡ []
unfolding text_of_input
run_text [] m n = refl
run_text (b ∷ s) m n = rw n.0 (run_text s (holds m (b ∷ [])) n.1)

pub feed_line : (s : List ℕ) (m : InputState) → NoEnd s → length m.held ≤ most_held
    → input_after m (s ++ (0x0A ∷ [])) ≡ record { gate = gate_after m.gate (line_in (take most_held (m.held ++ s))); held = [] }
unfolding input_after
feed_line s m n h = feed_append s (0x0A ∷ []) m ∙ ap (λ (k : InputState). input_after k (0x0A ∷ [])) (feed_run s m n h)

pub line_text_lem : (s : List ℕ) (m : InputState) → NoEnd s → length m.held ≤ most_held
    → text_of_input m (s ++ (0x0A ∷ [])) ≡ reply_text (reply_to m.gate (line_in (take most_held (m.held ++ s))))
unfolding text_of_input
line_text_lem s m n h =
    text_append s (0x0A ∷ []) m ∙ ap₂ (λ (t : List ℕ) (k : InputState). t ++ text_of_input k (0x0A ∷ [])) (run_text s m n) (feed_run s m n h) ∙ append-nil _

-- ---- a part of a block fed: from place `from` on, with the first 0A at place `end`, or none

-- the bytes before `end`
bytes_before : (block : List ℕ) (from end : ℕ) → end ≡ from + index_of 0x0A (drop from block) → take (end - from) (drop from block) ≡ take (index_of 0x0A (drop from block)) (drop from block)
bytes_before block from end e = let n : end - from ≡ index_of 0x0A (drop from block) = omega (arith, e) in rw n

-- where the block ends first, the bytes are held
pub part_run : (m : InputState) (block : List ℕ) (from end : ℕ) → length m.held ≤ most_held → end ≡ from + index_of 0x0A (drop from block)
    → (input_after m (part_from block from end) ≡ record { gate = m.gate; held = take most_held (m.held ++ take (end - from) (drop from block)) })
    × (text_of_input m (part_from block from end) ≡ [])
unfolding part_from
part_run m block from end l e =
    let n : NoEnd (take (end - from) (drop from block)) = subst NoEnd (sym (bytes_before block from end e)) (none_before (drop from block)) in
    (feed_run (take (end - from) (drop from block)) m n l, run_text (take (end - from) (drop from block)) m n)

-- where a 0A ends the line, the line is done
pub part_line : (m : InputState) (block : List ℕ) (from end : ℕ) → length m.held ≤ most_held → end ≡ from + index_of 0x0A (drop from block) → end < length block
    → (input_after m (part_from block from (end + 1)) ≡ record { gate = gate_after m.gate (line_in (take most_held (m.held ++ take (end - from) (drop from block)))); held = [] })
    × (text_of_input m (part_from block from (end + 1)) ≡ reply_text (reply_to m.gate (line_in (take most_held (m.held ++ take (end - from) (drop from block))))))
unfolding part_from
part_line m block from end l e h =
    let s = drop from block in
    let n : NoEnd (take (end - from) s) = subst NoEnd (sym (bytes_before block from end e)) (none_before s) in
    let all : end + 1 - from ≡ index_of 0x0A s + 1 = omega (arith, e) in
    let part : take (end + 1 - from) s ≡ take (end - from) s ++ (0x0A ∷ []) =
    ap (λ (k : ℕ). take k s) all ∙ with_end s (omega (arith, e, length-drop from block)) ∙ ap (λ (x : List ℕ). x ++ (0x0A ∷ [])) (sym (bytes_before block from end e)) in
    (ap (input_after m) part ∙ feed_line (take (end - from) s) m n l, ap (text_of_input m) part ∙ line_text_lem (take (end - from) s) m n l)

-- ---- one list of lines after another

pub run_append : (a b : List (List ℕ)) (g : Gate) → run_lines g (a ++ b) ≡ run_lines (run_lines g a) b
unfolding run_lines
run_append [] b g = refl
run_append (l ∷ a) b g = run_append a b (gate_after g (line_in l))

pub printed-append : (a b : List (List ℕ)) (g : Gate) → printed g (a ++ b) ≡ printed g a ++ printed (run_lines g a) b
unfolding run_lines printed
printed-append [] b g = refl
printed-append (l ∷ a) b g =
    ap (λ (t : List ℕ). reply_text (reply_to g (line_in l)) ++ t) (printed-append a b (gate_after g (line_in l))) ∙ sym (append_assoc (reply_text (reply_to g (line_in l))) _ _)

-- one line after a list of them, of which the first bytes are held
run_line : (g : Gate) (ls : List (List ℕ)) (l : List ℕ) (m : InputState) → m.gate ≡ run_lines g ls → m.held ≡ take most_held l
    → gate_after m.gate (line_in m.held) ≡ run_lines g (ls ++ (l ∷ []))
unfolding run_lines
run_line g ls l m p q = ap₂ gate_after p (ap line_in q ∙ line_held l) ∙ sym (run_append ls (l ∷ []) g)

printed_line : (g : Gate) (ls : List (List ℕ)) (l : List ℕ) (m : InputState) → m.gate ≡ run_lines g ls → m.held ≡ take most_held l
    → printed g (ls ++ (l ∷ [])) ≡ printed g ls ++ reply_text (reply_to m.gate (line_in m.held))
unfolding printed
printed_line g ls l m p q =
    printed-append ls (l ∷ []) g
    ∙ ap (λ (t : List ℕ). printed g ls ++ t) (append-nil _ ∙ sym (ap reply_text (ap₂ reply_to p (ap line_in q ∙ line_held l))))

-- ---- the input and its lines

-- the input's state after the lines of the cut, which holds the first bytes of its rest
pub record Does (g : Gate) (c : Cut) (m : InputState) : Type 0 where
  pub gate : m.gate ≡ run_lines g c.lines
  pub held : m.held ≡ take most_held c.rest

byte_does : (g : Gate) (c : Cut) (m : InputState) (b : ℕ) (t : Bool) → eqb b 0x0A ≡ t → Does g c m → Does g (cut_byte c b) (input_after_byte m b)
byte_does g c m b true e d = rw e (record { gate = run_line g c.lines c.rest m d.gate d.held; held = sym (take-nil most_held) })
byte_does g c m b false e d =
    rw e
    (record {
      gate = d.gate;
      held = ap (λ (l : List ℕ). take most_held (l ++ (b ∷ []))) d.held ∙ take_onto most_held c.rest (b ∷ []);
    })

byte_prints : (g : Gate) (c : Cut) (m : InputState) (b : ℕ) (t : Bool) → eqb b 0x0A ≡ t → Does g c m
    → printed g (cut_byte c b).lines ≡ printed g c.lines ++ text_of_byte m b
byte_prints g c m b true e d = rw e (printed_line g c.lines c.rest m d.gate d.held)
byte_prints g c m b false e d = rw e (sym (append-nil (printed g c.lines)))

pub feed_cut : (s : List ℕ) (g : Gate) (c : Cut) (m : InputState) → Does g c m → Does g (cut c s) (input_after m s)
unfolding input_after cut
feed_cut [] g c m d = d
feed_cut (b ∷ s) g c m d = feed_cut s g (cut_byte c b) (input_after_byte m b) (byte_does g c m b (eqb b 0x0A) refl d)

pub cut_prints : (s : List ℕ) (g : Gate) (c : Cut) (m : InputState) → Does g c m → printed g (cut c s).lines ≡ printed g c.lines ++ text_of_input m s
unfolding cut text_of_input
cut_prints [] g c m d = sym (append-nil (printed g c.lines))
cut_prints (b ∷ s) g c m d =
    cut_prints s g (cut_byte c b) (input_after_byte m b) (byte_does g c m b (eqb b 0x0A) refl d)
    ∙ ap (λ (t : List ℕ). t ++ text_of_input (input_after_byte m b) s) (byte_prints g c m b (eqb b 0x0A) refl d) ∙ append_assoc (printed g c.lines) _ _

-- ---- the whole input

starts_does : (g : Gate) → Does g (record { lines = []; rest = [] }) (input_start g)
unfolding run_lines
starts_does g = record { gate = refl; held = sym (take-nil most_held) }

-- what is held of a rest that has a byte
held_some : (n b : ℕ) (s : List ℕ) {l : List ℕ} → l ≡ take (suc n) (b ∷ s) → eqb (length l) 0 ≡ false
held_some n b s {l} e = ne_eqb _ _ (λ (z : length l ≡ 0). omega (arith, ap length e, z))

last_gate_lem : (g : Gate) (ls : List (List ℕ)) (s : List ℕ) (m : InputState) → m.gate ≡ run_lines g ls → m.held ≡ take most_held s
    → last_gate m ≡ run_lines g (ls ++ last_line s)
unfolding last_gate
last_gate_lem g ls [] m p q = rw (q, append-nil ls) p
last_gate_lem g ls (b ∷ s) m p q = rw (held_some longest b s q) (run_line g ls (b ∷ s) m p q)

last_text_lem : (g : Gate) (ls : List (List ℕ)) (s : List ℕ) (m : InputState) → m.gate ≡ run_lines g ls → m.held ≡ take most_held s
    → printed g (ls ++ last_line s) ≡ printed g ls ++ last_text m
unfolding last_text
last_text_lem g ls [] m p q = rw (q, append-nil ls) (sym (append-nil (printed g ls)))
last_text_lem g ls (b ∷ s) m p q = rw (held_some longest b s q) (printed_line g ls (b ∷ s) m p q)

pub whole_gate : (g : Gate) (s : List ℕ) → last_gate (input_after (input_start g) s) ≡ run_lines g (lines_in s)
unfolding lines_in
whole_gate g s =
    let c = cut (record { lines = []; rest = [] }) s in
    let d = feed_cut s g (record { lines = []; rest = [] }) (input_start g) (starts_does g) in
    last_gate_lem g c.lines c.rest (input_after (input_start g) s) d.gate d.held

pub whole_text : (g : Gate) (s : List ℕ) → printed g (lines_in s) ≡ text_of_input (input_start g) s ++ last_text (input_after (input_start g) s)
unfolding lines_in printed
whole_text g s =
    let c = cut (record { lines = []; rest = [] }) s in
    let d = feed_cut s g (record { lines = []; rest = [] }) (input_start g) (starts_does g) in
    last_text_lem g c.lines c.rest (input_after (input_start g) s) d.gate d.held
    ∙ ap (λ (t : List ℕ). t ++ last_text (input_after (input_start g) s)) (cut_prints s g (record { lines = []; rest = [] }) (input_start g) (starts_does g))

-- an input, in whatever blocks it arrives, prints what its lines print
pub whole_output : (g : Gate) (s : List ℕ)
    → text_of_input (input_start g) s ++ last_text (input_after (input_start g) s) ++ end_text (last_gate (input_after (input_start g) s)).session ≡ output g (lines_in s)
unfolding output
whole_output g s =
    ap₂ (λ (t : List ℕ) (h : Gate). t ++ end_text h.session) (sym (whole_text g s)) (whole_gate g s)

-- ---- the promises of the contracts

cut-append : (a b : List ℕ) (c : Cut) → cut c (a ++ b) ≡ cut (cut c a) b
unfolding cut
cut-append [] b c = refl
cut-append (x ∷ a) b c = cut-append a b (cut_byte c x)

-- the state is that of the bytes before
cut_does : (g : Gate) (m : InputState) (bytes : List ℕ) → m ≡ input_after (input_start g) bytes → Does g (cut_of bytes) m
cut_does g m bytes e = subst (Does g (cut_of bytes)) (sym e) (feed_cut bytes g (record { lines = []; rest = [] }) (input_start g) (starts_does g))

pub feed_promise : (m : InputState) (part text : List ℕ) → text ≡ text_of_input m part → FeedPromise m part text
feed_promise m part text e object bytes p =
    let c = cut_of bytes in
    ap₂ (λ (a b : List ℕ). a ++ b) (sym (run_printed object c.lines)) e ∙ sym (cut_prints part (fresh object) c m (cut_does (fresh object) m bytes p))
    ∙ ap (λ (x : Cut). printed (fresh object) x.lines) (sym (cut-append bytes part (record { lines = []; rest = [] }))) ∙ run_printed object (cut_of (bytes ++ part)).lines

pub last_promise : (m : InputState) (text : List ℕ) → text ≡ last_text m → LastPromise m text
unfolding lines_in
last_promise m text e object bytes p =
    let c = cut_of bytes in
    let d = cut_does (fresh object) m bytes p in
    ap₂ (λ (a b : List ℕ). a ++ b) (sym (run_printed object c.lines)) e ∙ sym (last_text_lem (fresh object) c.lines c.rest m d.gate d.held)
    ∙ run_printed object (c.lines ++ last_line c.rest)

-- all that is printed of an input, in whatever blocks it arrives, by the reading
pub whole_reading : (object s : List ℕ)
    → let m = input_after (input_start (fresh object)) s in
    text_of_input (input_start (fresh object)) s ++ last_text m ++ end_text (last_gate m).session
    ≡ printed_for (fresh object) SinceOpen.none (lines_in s) ++ end_for (since_open (fresh object) (lines_in s))
whole_reading object s = whole_output (fresh object) s ∙ run_output object (lines_in s)
