-- A list of direct calls on a session as a line spells it (document 01; the preview: document 02, request 6), and the text of what each call gives, by crate session's definitions.
-- Assumes nothing.
use Rattle.std.specs.Prelude.{cond, List, [], ◌∷◌, ◌++◌, ℕ, zero, suc, ◌+◌, ◌*◌, eqb, length, get_or, take, drop, replicate, Option, Some, None}
use Rattle.common.specs.Lists.{number}
use Rattle.text.specs.Hex.{hex_of}
use Rattle.session.specs.Tables.{object_size}
use Rattle.session.specs.Operation.{dead, open_of, verdict_of, preview_of}
use Rattle.session.specs.declared.state.Session.{Session}
use Rattle.session.specs.Promise.{Call, Host, call_number, count_of, bytes_of, host_after}
use Rattle.append.specs.Append.{texts_of, number_text}
use Rattle.vectors.specs.declared.answer.calls.DirectCall.{DirectCall}
use Rattle.vectors.specs.declared.answer.calls.DirectCall.TheVariants.{Open, Command, Answer, Verdict, Preview, Stamp, Field}

-- ---- how a line spells a call

-- One byte names the call, two bytes say how many bytes its arguments have, the high byte first, and those bytes follow, or as many as there are. A byte asked for past the end
-- counts as 00.
abbrev pub direct_call : ℕ → Option DirectCall
direct_call n =
    cond (eqb n 1) (Some Open)
    (cond (eqb n 2) (Some Command)
    (cond (eqb n 3) (Some Answer)
    (cond (eqb n 4) (Some Verdict)
    (cond (eqb n 5) (Some Preview)
    (cond (eqb n 6) (Some Stamp)
    (cond (eqb n 7) (Some Field) None))))))

abbrev pub call_head_size : ℕ
call_head_size = 3

abbrev pub argument_count : List ℕ → ℕ
argument_count s = 256 * get_or s 1 0 + get_or s 2 0

abbrev pub argument_bytes : List ℕ → List ℕ
argument_bytes s = take (argument_count s) (drop call_head_size s)

abbrev pub later_calls : List ℕ → List ℕ
later_calls s = drop (call_head_size + argument_count s) s

-- The date of an opening, four bytes after the mode, the highest first.
unfoldable pub date_in : List ℕ → ℕ
date_in a = number 256 4 (λ j. get_or a (1 + j) 0)

-- An opening, a verdict and a preview with the arguments a.
abbrev pub open_by : List ℕ → ℕ × Session
open_by a = open_of (get_or a 0 0) (date_in a) (drop 5 a)

abbrev pub verdict_by : Session → List ℕ → ℕ × Session
verdict_by s a = verdict_of s (get_or a 0 0) (get_or a 1 0) (drop 2 a)

abbrev pub preview_by : Session → List ℕ → List ℕ → ℕ × List ℕ
preview_by s a out = preview_of s (get_or a 0 0) (get_or a 1 0) (drop 3 a) out

-- The buffer that a command, a preview or a stamp is lent: as many bytes FF as one byte of the arguments says, at most 64.
abbrev pub most_room : ℕ
most_room = 64

abbrev pub room_in : DirectCall → List ℕ → ℕ
room_in Open a = 0
room_in Command a = get_or a 0 0
room_in Answer a = 0
room_in Verdict a = 0
room_in Preview a = get_or a 2 0
room_in Stamp a = get_or a 0 0
room_in Field a = 0

abbrev pub lent_for : DirectCall → List ℕ → List ℕ
lent_for call a = take (room_in call a) (replicate most_room 0xFF)

-- ---- what a call gives

-- `(open `, `(command `, `(answer `, `(verdict `, `(preview `, `(stamp `, `(field `, `(none)`, and what stands between and after them
abbrev pub open_word : List ℕ
open_word = 0x28 ∷ 0x6F ∷ 0x70 ∷ 0x65 ∷ 0x6E ∷ 0x20 ∷ []

abbrev pub command_word : List ℕ
command_word = 0x28 ∷ 0x63 ∷ 0x6F ∷ 0x6D ∷ 0x6D ∷ 0x61 ∷ 0x6E ∷ 0x64 ∷ 0x20 ∷ []

abbrev pub answer_word : List ℕ
answer_word = 0x28 ∷ 0x61 ∷ 0x6E ∷ 0x73 ∷ 0x77 ∷ 0x65 ∷ 0x72 ∷ 0x20 ∷ []

abbrev pub verdict_word : List ℕ
verdict_word = 0x28 ∷ 0x76 ∷ 0x65 ∷ 0x72 ∷ 0x64 ∷ 0x69 ∷ 0x63 ∷ 0x74 ∷ 0x20 ∷ []

abbrev pub preview_word : List ℕ
preview_word = 0x28 ∷ 0x70 ∷ 0x72 ∷ 0x65 ∷ 0x76 ∷ 0x69 ∷ 0x65 ∷ 0x77 ∷ 0x20 ∷ []

abbrev pub stamp_word : List ℕ
stamp_word = 0x28 ∷ 0x73 ∷ 0x74 ∷ 0x61 ∷ 0x6D ∷ 0x70 ∷ 0x20 ∷ []

abbrev pub field_word : List ℕ
field_word = 0x28 ∷ 0x66 ∷ 0x69 ∷ 0x65 ∷ 0x6C ∷ 0x64 ∷ 0x20 ∷ []

abbrev pub none_word : List ℕ
none_word = 0x28 ∷ 0x6E ∷ 0x6F ∷ 0x6E ∷ 0x65 ∷ 0x29 ∷ []

abbrev pub one_space : List ℕ
one_space = 0x20 ∷ []

abbrev pub close : List ℕ
close = 0x29 ∷ []

-- `(open N)`: the number of a call, 0 where it is accepted
unfoldable pub numbered_text : List ℕ → ℕ → List ℕ
numbered_text word n = word ++ number_text n ++ close

-- `(stamp N HEX)`: the number, and all bytes of the lent buffer
unfoldable pub buffer_text : List ℕ → ℕ → List ℕ → List ℕ
buffer_text word n buffer = word ++ number_text n ++ one_space ++ hex_of buffer ++ close

-- `(command N COUNT HEX)`
unfoldable pub counted_text : ℕ → ℕ → List ℕ → List ℕ
counted_text n count buffer = command_word ++ number_text n ++ one_space ++ number_text count ++ one_space ++ hex_of buffer ++ close

-- `(field HEX)`
unfoldable pub field_text : List ℕ → List ℕ
field_text part = field_word ++ hex_of part ++ close

-- The text of a call with the arguments a, made on the session of a host and lent the host's object buffer, no list, and the buffer `out`.
unfoldable pub direct_text : DirectCall → Host → List ℕ → List ℕ → List ℕ
direct_text Open h a out = numbered_text open_word (open_by a).0
direct_text Command h a out = let c = Call.command out in counted_text (call_number h c) (count_of h c) (bytes_of h c)
direct_text Answer h a out = numbered_text answer_word (call_number h (Call.answer h.object a []))
direct_text Verdict h a out = numbered_text verdict_word (call_number h (Call.verdict (get_or a 0 0) (get_or a 1 0) (drop 2 a)))
direct_text Preview h a out = let c = Call.preview (get_or a 0 0) (get_or a 1 0) (drop 3 a) out in buffer_text preview_word (call_number h c) (bytes_of h c)
direct_text Stamp h a out = let c = Call.stamp out in buffer_text stamp_word (call_number h c) (bytes_of h c)
direct_text Field h a out = field_text (bytes_of h (Call.field h.object (get_or a 0 0)))

-- The session and the object buffer after it. An opening gives a new session, the dead one where it is refused.
unfoldable pub after_call : DirectCall → Host → List ℕ → List ℕ → Host
after_call Open h a out = record { session = (open_by a).1; object = h.object }
after_call Command h a out = host_after h (Call.command out)
after_call Answer h a out = host_after h (Call.answer h.object a [])
after_call Verdict h a out = host_after h (Call.verdict (get_or a 0 0) (get_or a 1 0) (drop 2 a))
after_call Preview h a out = host_after h (Call.preview (get_or a 0 0) (get_or a 1 0) (drop 3 a) out)
after_call Stamp h a out = host_after h (Call.stamp out)
after_call Field h a out = host_after h (Call.field h.object (get_or a 0 0))

-- The buffer after it.
unfoldable pub buffer_after : DirectCall → Host → List ℕ → List ℕ → List ℕ
buffer_after Open h a out = out
buffer_after Command h a out = bytes_of h (Call.command out)
buffer_after Answer h a out = out
buffer_after Verdict h a out = out
buffer_after Preview h a out = (preview_by h.session a out).1
buffer_after Stamp h a out = bytes_of h (Call.stamp out)
buffer_after Field h a out = out

-- ---- the calls of a line

-- The text of the call that a byte names, lent a buffer of its own, and the session and the object buffer after it;
-- where the byte names none, `(none)`, and both as they were.
unfoldable pub named_text : Option DirectCall → Host → List ℕ → List ℕ
named_text (Some call) h a = direct_text call h a (lent_for call a)
named_text None h a = none_word

unfoldable pub after_named : Option DirectCall → Host → List ℕ → Host
after_named (Some call) h a = after_call call h a (lent_for call a)
after_named None h a = h

-- The text of the first call that the bytes s spell, and the session and the object buffer after it. No bytes spell no call.
unfoldable pub first_text : Host → List ℕ → List ℕ
first_text h s = cond (eqb (length s) 0) [] (named_text (direct_call (get_or s 0 0)) h (argument_bytes s))

unfoldable pub after_first : Host → List ℕ → Host
after_first h s = cond (eqb (length s) 0) h (after_named (direct_call (get_or s 0 0)) h (argument_bytes s))

-- What is left of the bytes s after i calls, and the session and the object buffer then, by those at the start.
unfoldable pub calls_left : List ℕ → ℕ → List ℕ
calls_left s zero = s
calls_left s (suc i) = later_calls (calls_left s i)

unfoldable pub host_at : Host → List ℕ → ℕ → Host
host_at h s zero = h
host_at h s (suc i) = after_first (host_at h s i) (calls_left s i)

-- The texts of all calls: there are no more than there are bytes.
unfoldable pub call_texts : Host → List ℕ → List ℕ
call_texts h s = texts_of (length s) (λ i. first_text (host_at h s i) (calls_left s i))

-- The first call is made on the dead session, with an object buffer of zeros.
unfoldable pub calls_text : List ℕ → List ℕ
calls_text s = call_texts (record { session = dead; object = replicate object_size 0 }) s
