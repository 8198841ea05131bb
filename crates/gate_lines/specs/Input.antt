-- The input: bytes, in blocks of any size, cut into lines at 0A. "The 0A isn't counted, and the last line may lack it."
-- Assumes nothing.
use Rattle.std.specs.Prelude.{◌≡◌, cond, List, [], ◌∷◌, ◌++◌, ℕ, ◌+◌, eqb, length, take}
use Rattle.gate_lines.specs.Line.{longest, line_in}
use Rattle.gate_lines.specs.Gate.{Gate, gate_after, reply_to, reply_text, fresh}
use Rattle.gate_lines.specs.Run.{SinceOpen, printed_for}

-- ---- the lines of an input

-- The whole lines, and the bytes after the last 0A.
pub record Cut : Type 0 where
  pub lines : List (List ℕ)
  pub rest : List ℕ

abbrev pub cut_byte : Cut → ℕ → Cut
cut_byte c b = cond (eqb b 0x0A) (record { lines = c.lines ++ (c.rest ∷ []); rest = [] }) (record { lines = c.lines; rest = c.rest ++ (b ∷ []) })

unfoldable pub cut : Cut → List ℕ → Cut
cut c [] = c
cut c (b ∷ s) = cut (cut_byte c b) s

-- The lines of an input: a last line without 0A counts where it has a byte.
abbrev pub last_line : List ℕ → List (List ℕ)
last_line [] = []
last_line (b ∷ s) = (b ∷ s) ∷ []

abbrev pub cut_of : List ℕ → Cut
cut_of s = cut (record { lines = []; rest = [] }) s

unfoldable pub lines_in : List ℕ → List (List ℕ)
lines_in s = let c = cut_of s in c.lines ++ last_line c.rest

-- ---- the program on one byte after another

-- The state, and the first bytes of the line that is not whole yet: one more than a line may have, so that a longer line is told from a whole one.
abbrev pub most_held : ℕ
most_held = longest + 1

pub record InputState : Type 0 where
  pub gate : Gate
  pub held : List ℕ

abbrev pub input_start : Gate → InputState
input_start g = record { gate = g; held = [] }

-- A 0A ends the line; any other byte is held, as far as there is room.
abbrev pub input_after_byte : InputState → ℕ → InputState
input_after_byte m b =
    cond (eqb b 0x0A) (record { gate = gate_after m.gate (line_in m.held); held = [] }) (record { gate = m.gate; held = take most_held (m.held ++ (b ∷ [])) })

abbrev pub text_of_byte : InputState → ℕ → List ℕ
text_of_byte m b = cond (eqb b 0x0A) (reply_text (reply_to m.gate (line_in m.held))) []

unfoldable pub input_after : InputState → List ℕ → InputState
input_after m [] = m
input_after m (b ∷ s) = input_after (input_after_byte m b) s

unfoldable pub text_of_input : InputState → List ℕ → List ℕ
text_of_input m [] = []
text_of_input m (b ∷ s) = text_of_byte m b ++ text_of_input (input_after_byte m b) s

-- At the end of the input: a line without 0A, where it has a byte.
unfoldable pub last_gate : InputState → Gate
last_gate m = cond (eqb (length m.held) 0) m.gate (gate_after m.gate (line_in m.held))

unfoldable pub last_text : InputState → List ℕ
last_text m = cond (eqb (length m.held) 0) [] (reply_text (reply_to m.gate (line_in m.held)))

-- ---- what is promised, as the contracts of the code carry it: for every object buffer and all bytes that lead to the state

-- What the whole lines of an input print, by the reading.
abbrev pub printed_of : List ℕ → List ℕ → List ℕ
printed_of object bytes = printed_for (fresh object) SinceOpen.none (cut_of bytes).lines

-- What was printed before, with the text of a part of the input after it, is what the whole lines print of all that was fed.
abbrev pub FeedPromise : InputState → List ℕ → List ℕ → Type 0
FeedPromise m part text =
    (object bytes : List ℕ) → m ≡ input_after (input_start (fresh object)) bytes → printed_of object bytes ++ text ≡ printed_of object (bytes ++ part)

-- The same at the end of the input, with the last line.
abbrev pub LastPromise : InputState → List ℕ → Type 0
LastPromise m text =
    (object bytes : List ℕ) → m ≡ input_after (input_start (fresh object)) bytes → printed_of object bytes ++ text ≡ printed_for (fresh object) SinceOpen.none (lines_in bytes)
