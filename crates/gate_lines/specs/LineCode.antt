-- How the code's answer about a line is read; the public contract of `line::read` cites `line_by` and `Fits`.
-- Assumes nothing.
use Rattle.std.specs.Prelude.{◌≡◌, Option, Some, None, List, ℕ, ◌+◌, ◌≤◌, length}
use Rattle.text.specs.Hex.{bytes_in}
use Rattle.gate_lines.specs.Line.{GateLine, longest, open_head, answer_head, verdict_head, hex_from}
use Rattle.gate_lines.specs.declared.line.Line.{Line}
use Rattle.gate_lines.specs.declared.line.Line.TheVariants as lines

-- What the code's answer says of a line: the digits of HEX that it gives spell the line's bytes.
abbrev pub line_by : Option Line → GateLine
line_by None = GateLine.bad
line_by (Some (lines.Card key)) = GateLine.card key.0
line_by (Some (lines.Open mode date aid)) = GateLine.opening mode date (bytes_in aid.now)
line_by (Some (lines.Answer answer)) = GateLine.answer (bytes_in answer.now)
line_by (Some (lines.Verdict kind yes_no fascn)) = GateLine.verdict kind yes_no (bytes_in fascn.now)

-- The digits given are what stands in the line s between its head and its last byte. They are a pair or more, and the
-- line is not too long.
abbrev pub HexFits : ℕ → List ℕ → List ℕ → Type 0
HexFits head s digits = (digits ≡ hex_from head s) × (head + 3 ≤ length s) × (length s ≤ longest)

-- So for each form that has HEX.
abbrev pub Fits : Option Line → List ℕ → Type 0
Fits None s = Unit
Fits (Some (lines.Card key)) s = Unit
Fits (Some (lines.Open mode date aid)) s = HexFits open_head s aid.now
Fits (Some (lines.Answer answer)) s = HexFits answer_head s answer.now
Fits (Some (lines.Verdict kind yes_no fascn)) s = HexFits verdict_head s fascn.now
