-- What a line does to the gate program's state, what it prints, and what is printed at the end (document 01, "List text and the gate program").
-- Assumes nothing.
use Rattle.std.specs.Prelude.{Bool, cond, List, [], ◌∷◌, ◌++◌, ℕ, ◌+◌, ◌*◌, ◌/◌, ◌%◌, eqb, ltb, length, replicate}
use Rattle.card.specs.Command.{command_most}
use Rattle.text.specs.Hex.{hex_of}
use Rattle.session.specs.Tables.{since, stamp_size}
use Rattle.session.specs.Operation.{dead, open_of, command_of, answer_of, answer_buffer, verdict_of, stamp_answer, stamp_buffer}
use Rattle.session.specs.declared.state.Session.{Session}
use Rattle.gate_lines.specs.Line.{GateLine}

-- ---- the state between two lines

-- The session, dead where none is open, the keys of the cards read so far, and the object buffer.
pub record Gate : Type 0 where
  pub session : Session
  pub keys : List ℕ
  pub object : List ℕ

-- Before the first line: no session is open and no card was read.
abbrev pub fresh : List ℕ → Gate
fresh object = record { session = dead; keys = []; object = object }

-- ---- one line

-- "card lines (up to 1,024 of them)"
abbrev pub most_cards : ℕ
most_cards = 1024

abbrev pub has_room : Gate → Bool
has_room g = ltb (length g.keys) most_cards

-- The size of the buffer lent to a command call: the longest command fits.
abbrev pub command_room : ℕ
command_room = command_most

-- "Before each answer it makes the command call itself"
abbrev pub commanded : Gate → Session
commanded g = (command_of g.session command_room).2

abbrev pub with_session : Gate → Session → Gate
with_session g s = record { session = s; keys = g.keys; object = g.object }

-- The state after a line. "an answer is lent the cards read so far"; "An accepted open replaces the session; a refused one doesn't."
unfoldable pub gate_after : Gate → GateLine → Gate
gate_after g (GateLine.card key) = cond (has_room g) (record { session = g.session; keys = g.keys ++ (key ∷ []); object = g.object }) g
gate_after g (GateLine.opening mode date aid) = cond (eqb (open_of mode date aid).0 0) (with_session g (open_of mode date aid).1) g
gate_after g (GateLine.answer bytes) =
    record {
      session = (answer_of (commanded g) g.object bytes g.keys).1;
      keys = g.keys;
      object = answer_buffer (commanded g) g.object bytes;
    }
gate_after g (GateLine.verdict kind yes_no fascn) = with_session g (verdict_of g.session kind yes_no fascn).1
gate_after g GateLine.bad = g

-- "It prints `(ok)`, `(refused N)` or, for other or longer lines and a 1,025th card, `(bad)`"
pub data Reply : Type 0 where
  ok : Reply
  refused : (number : ℕ) → Reply
  bad : Reply

abbrev pub reply_by : ℕ → Reply
reply_by k = cond (eqb k 0) Reply.ok (Reply.refused k)

unfoldable pub reply_to : Gate → GateLine → Reply
reply_to g (GateLine.card key) = cond (has_room g) Reply.ok Reply.bad
reply_to g (GateLine.opening mode date aid) = reply_by (open_of mode date aid).0
reply_to g (GateLine.answer bytes) = reply_by (answer_of (commanded g) g.object bytes g.keys).0
reply_to g (GateLine.verdict kind yes_no fascn) = reply_by (verdict_of g.session kind yes_no fascn).0
reply_to g GateLine.bad = Reply.bad

-- ---- text

-- The last decimal digit of x in ASCII, and a number below 1,000 in decimal.
abbrev pub decimal_digit : ℕ → ℕ
decimal_digit x = 48 + x % 10

unfoldable pub decimal_text : ℕ → List ℕ
decimal_text n =
    cond (ltb n 10) (decimal_digit n ∷ [])
    (cond (ltb n 100) (decimal_digit (n / 10) ∷ decimal_digit n ∷ []) (decimal_digit (n / 100) ∷ decimal_digit (n / 10) ∷ decimal_digit n ∷ []))

-- `(refused `, and `)` with 0A
abbrev pub refused_head : List ℕ
refused_head = 0x28 ∷ 0x72 ∷ 0x65 ∷ 0x66 ∷ 0x75 ∷ 0x73 ∷ 0x65 ∷ 0x64 ∷ 0x20 ∷ []

abbrev pub closing : List ℕ
closing = 0x29 ∷ 0x0A ∷ []

unfoldable pub refused_text : ℕ → List ℕ
refused_text n = refused_head ++ decimal_text n ++ closing

-- `(ok)`, `(bad)` and the text of a refusal
unfoldable pub reply_text : Reply → List ℕ
reply_text Reply.ok = 0x28 ∷ 0x6F ∷ 0x6B ∷ 0x29 ∷ 0x0A ∷ []
reply_text Reply.bad = 0x28 ∷ 0x62 ∷ 0x61 ∷ 0x64 ∷ 0x29 ∷ 0x0A ∷ []
reply_text (Reply.refused n) = refused_text n

-- `(stamp `
abbrev pub stamp_opens : List ℕ
stamp_opens = 0x28 ∷ 0x73 ∷ 0x74 ∷ 0x61 ∷ 0x6D ∷ 0x70 ∷ 0x20 ∷ []

unfoldable pub stamp_text : List ℕ → List ℕ
stamp_text stamp = stamp_opens ++ hex_of stamp ++ closing

-- The most that is printed at once: the text of a stamp.
unfoldable pub text_size : ℕ
text_size = length stamp_opens + 2 * stamp_size since + length closing

-- "at the end `(stamp HEX)`, or `(refused 4)` if no session is open"
unfoldable pub end_text : Session → List ℕ
end_text s =
    let k = (stamp_answer s (stamp_size since)).0 in
    cond (eqb k 0) (stamp_text (stamp_buffer s (replicate (stamp_size since) 0))) (refused_text k)
