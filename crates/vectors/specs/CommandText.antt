-- The texts of what the writers of commands and the reader of status words say.
-- Assumes nothing.
use Rattle.std.specs.Prelude.{cond, List, [], ◌∷◌, ◌++◌, ℕ, eqb, leb, length, get_or, take, drop, replicate}
use Rattle.card.specs.Command.{select_of, get_data_of, get_response_of, status_of}
use Rattle.card.specs.declared.object.Kind.{Kind}
use Rattle.card.specs.declared.command.Status.{Status}
use Rattle.card.specs.declared.command.Status.TheVariants.{Done, More, Again, Other}
use Rattle.text.specs.Hex.{hex_of}
use Rattle.append.specs.Append.{number_text}
use Rattle.vectors.specs.RefusalText.{refusal_text, no_vector}

-- ---- commands

-- `N bytes HEX, then HEX`: how many bytes were written, and the buffer: those bytes, then the rest
abbrev pub bytes_word : List ℕ
bytes_word = 0x20 ∷ 0x62 ∷ 0x79 ∷ 0x74 ∷ 0x65 ∷ 0x73 ∷ 0x20 ∷ []

abbrev pub then_word : List ℕ
then_word = 0x2C ∷ 0x20 ∷ 0x74 ∷ 0x68 ∷ 0x65 ∷ 0x6E ∷ 0x20 ∷ []

unfoldable pub written_text : ℕ → List ℕ → List ℕ
written_text n buffer = number_text n ++ bytes_word ++ hex_of (take n buffer) ++ then_word ++ hex_of (drop n buffer)

-- `refused N, the buffer HEX`
abbrev pub buffer_word : List ℕ
buffer_word = 0x2C ∷ 0x20 ∷ 0x74 ∷ 0x68 ∷ 0x65 ∷ 0x20 ∷ 0x62 ∷ 0x75 ∷ 0x66 ∷ 0x66 ∷ 0x65 ∷ 0x72 ∷ 0x20 ∷ []

unfoldable pub unwritten_text : ℕ → List ℕ → List ℕ
unwritten_text n buffer = refusal_text n ++ buffer_word ++ hex_of buffer

-- By what a command gives: number, count of bytes, and the buffer then.
unfoldable pub command_text : (ℕ × ℕ) × List ℕ → List ℕ
command_text c = cond (eqb c.0.0 0) (written_text c.0.1 c.1) (unwritten_text c.0.0 c.1)

-- The buffer that a command is lent: so many bytes FF, at most 24, which is room for every command and a byte or two more.
abbrev pub spare_size : ℕ
spare_size = 24

unfoldable pub spare : ℕ → List ℕ
spare room = take room (replicate spare_size 0xFF)

-- SELECT of the AID s with a last byte; and with its last byte replaced, of a line that spells that byte and then the AID.
unfoldable pub select_text : ℕ → ℕ → List ℕ → List ℕ
select_text last room s = command_text (select_of s last (spare room))

unfoldable pub select_again_text : ℕ → List ℕ → List ℕ
select_again_text room s = select_text (get_or s 0 0) room (drop 1 s)

-- GET DATA of an object; the line spells no bytes, or the last byte.
unfoldable pub get_data_text : Kind → ℕ → List ℕ → List ℕ
get_data_text k room s = cond (leb (length s) 1) (command_text (get_data_of k (get_or s 0 0) (spare room))) no_vector

-- GET RESPONSE with the one byte of s.
unfoldable pub get_response_text : ℕ → List ℕ → List ℕ
get_response_text room s = cond (eqb (length s) 1) (command_text (get_response_of (get_or s 0 0) (spare room))) no_vector

-- ---- status words

abbrev pub more_word : List ℕ
more_word = 0x6D ∷ 0x6F ∷ 0x72 ∷ 0x65 ∷ 0x20 ∷ []

abbrev pub again_word : List ℕ
again_word = 0x61 ∷ 0x67 ∷ 0x61 ∷ 0x69 ∷ 0x6E ∷ 0x20 ∷ []

unfoldable pub text_of_status : Status → List ℕ
text_of_status Done = 0x64 ∷ 0x6F ∷ 0x6E ∷ 0x65 ∷ []
text_of_status (More second) = more_word ++ hex_of (second ∷ [])
text_of_status (Again last) = again_word ++ hex_of (last ∷ [])
text_of_status Other = 0x6F ∷ 0x74 ∷ 0x68 ∷ 0x65 ∷ 0x72 ∷ []

abbrev pub status_text : List ℕ → List ℕ
status_text s = text_of_status (status_of s)
