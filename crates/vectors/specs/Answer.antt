-- The calls by name, and the text of each one's answer. A call is a row of `call_rows` and a row of `answer_text`.
-- Assumes nothing.
use Rattle.std.specs.Prelude.{cond, List, [], ◌∷◌, ℕ, Option, Some, None}
use Rattle.common.specs.Lists.{same_bytes}
use Rattle.card.specs.declared.object.Kind.TheVariants as kinds
use Rattle.vectors.specs.RefusalText.{no_vector}
use Rattle.vectors.specs.FascnText.{unpack_text, pack_text}
use Rattle.vectors.specs.ObjectText.{header_text, template_text, object_text, date_text, real_text}
use Rattle.vectors.specs.CommandText.{select_text, select_again_text, get_data_text, get_response_text, status_text}
use Rattle.vectors.specs.VisualText.{looked_up_text}
use Rattle.vectors.specs.MergeText.{merge_text}
use Rattle.vectors.specs.CallsText.{calls_text}
use Rattle.vectors.specs.declared.answer.VectorCall.{VectorCall}
use Rattle.vectors.specs.declared.answer.VectorCall.TheVariants.{Unpack, Pack, Header, Template, Date, Real, Object, Select, SelectAgain, GetData, GetResponse, Status, Cin, Merge, Calls}

-- ---- the names

-- The call of a name, by rows of a name and a call; None where the name is in no row.
unfoldable pub call_among : List (List ℕ × VectorCall) → List ℕ → Option VectorCall
call_among [] name = None
call_among (r ∷ rs) name = cond (same_bytes name r.0) (Some r.1) (call_among rs name)

-- The names. A number is the room of the buffer that a command is lent, and `short..` lends one that may be too short.
abbrev pub call_rows : List (List ℕ × VectorCall)
call_rows =
    -- unpack
    (0x75 ∷ 0x6E ∷ 0x70 ∷ 0x61 ∷ 0x63 ∷ 0x6B ∷ [], Unpack)
    -- pack
    ∷ (0x70 ∷ 0x61 ∷ 0x63 ∷ 0x6B ∷ [], Pack)
    -- header
    ∷ (0x68 ∷ 0x65 ∷ 0x61 ∷ 0x64 ∷ 0x65 ∷ 0x72 ∷ [], Header)
    -- template
    ∷ (0x74 ∷ 0x65 ∷ 0x6D ∷ 0x70 ∷ 0x6C ∷ 0x61 ∷ 0x74 ∷ 0x65 ∷ [], Template)
    -- date
    ∷ (0x64 ∷ 0x61 ∷ 0x74 ∷ 0x65 ∷ [], Date)
    -- real
    ∷ (0x72 ∷ 0x65 ∷ 0x61 ∷ 0x6C ∷ [], Real)
    -- signed
    ∷ (0x73 ∷ 0x69 ∷ 0x67 ∷ 0x6E ∷ 0x65 ∷ 0x64 ∷ [], Object kinds.Signed)
    -- unsigned
    ∷ (0x75 ∷ 0x6E ∷ 0x73 ∷ 0x69 ∷ 0x67 ∷ 0x6E ∷ 0x65 ∷ 0x64 ∷ [], Object kinds.Unsigned)
    -- fingers
    ∷ (0x66 ∷ 0x69 ∷ 0x6E ∷ 0x67 ∷ 0x65 ∷ 0x72 ∷ 0x73 ∷ [], Object kinds.Fingers)
    -- picture
    ∷ (0x70 ∷ 0x69 ∷ 0x63 ∷ 0x74 ∷ 0x75 ∷ 0x72 ∷ 0x65 ∷ [], Object kinds.Picture)
    -- select
    ∷ (0x73 ∷ 0x65 ∷ 0x6C ∷ 0x65 ∷ 0x63 ∷ 0x74 ∷ [], Select 24)
    -- shortselect
    ∷ (0x73 ∷ 0x68 ∷ 0x6F ∷ 0x72 ∷ 0x74 ∷ 0x73 ∷ 0x65 ∷ 0x6C ∷ 0x65 ∷ 0x63 ∷ 0x74 ∷ [], Select 14)
    -- selectagain
    ∷ (0x73 ∷ 0x65 ∷ 0x6C ∷ 0x65 ∷ 0x63 ∷ 0x74 ∷ 0x61 ∷ 0x67 ∷ 0x61 ∷ 0x69 ∷ 0x6E ∷ [], SelectAgain 24)
    -- getsigned
    ∷ (0x67 ∷ 0x65 ∷ 0x74 ∷ 0x73 ∷ 0x69 ∷ 0x67 ∷ 0x6E ∷ 0x65 ∷ 0x64 ∷ [], GetData kinds.Signed 12)
    -- getunsigned
    ∷ (0x67 ∷ 0x65 ∷ 0x74 ∷ 0x75 ∷ 0x6E ∷ 0x73 ∷ 0x69 ∷ 0x67 ∷ 0x6E ∷ 0x65 ∷ 0x64 ∷ [], GetData kinds.Unsigned 12)
    -- getfingers
    ∷ (0x67 ∷ 0x65 ∷ 0x74 ∷ 0x66 ∷ 0x69 ∷ 0x6E ∷ 0x67 ∷ 0x65 ∷ 0x72 ∷ 0x73 ∷ [], GetData kinds.Fingers 12)
    -- getpicture
    ∷ (0x67 ∷ 0x65 ∷ 0x74 ∷ 0x70 ∷ 0x69 ∷ 0x63 ∷ 0x74 ∷ 0x75 ∷ 0x72 ∷ 0x65 ∷ [], GetData kinds.Picture 12)
    -- shortgetsigned
    ∷ (0x73 ∷ 0x68 ∷ 0x6F ∷ 0x72 ∷ 0x74 ∷ 0x67 ∷ 0x65 ∷ 0x74 ∷ 0x73 ∷ 0x69 ∷ 0x67 ∷ 0x6E ∷ 0x65 ∷ 0x64 ∷ [], GetData kinds.Signed 10)
    -- getresponse
    ∷ (0x67 ∷ 0x65 ∷ 0x74 ∷ 0x72 ∷ 0x65 ∷ 0x73 ∷ 0x70 ∷ 0x6F ∷ 0x6E ∷ 0x73 ∷ 0x65 ∷ [], GetResponse 6)
    -- shortgetresponse
    ∷ (0x73 ∷ 0x68 ∷ 0x6F ∷ 0x72 ∷ 0x74 ∷ 0x67 ∷ 0x65 ∷ 0x74 ∷ 0x72 ∷ 0x65 ∷ 0x73 ∷ 0x70 ∷ 0x6F ∷ 0x6E ∷ 0x73 ∷ 0x65 ∷ [], GetResponse 4)
    -- status
    ∷ (0x73 ∷ 0x74 ∷ 0x61 ∷ 0x74 ∷ 0x75 ∷ 0x73 ∷ [], Status)
    -- cin
    ∷ (0x63 ∷ 0x69 ∷ 0x6E ∷ [], Cin)
    -- merge
    ∷ (0x6D ∷ 0x65 ∷ 0x72 ∷ 0x67 ∷ 0x65 ∷ [], Merge)
    -- calls
    ∷ (0x63 ∷ 0x61 ∷ 0x6C ∷ 0x6C ∷ 0x73 ∷ [], Calls)
    ∷ []

unfoldable pub call_named : List ℕ → Option VectorCall
call_named name = call_among call_rows name

-- ---- the answers

-- What a call says of the bytes s.
unfoldable pub answer_text : VectorCall → List ℕ → List ℕ
answer_text Unpack s = unpack_text s
answer_text Pack s = pack_text s
answer_text Header s = header_text s
answer_text Template s = template_text s
answer_text Date s = date_text s
answer_text Real s = real_text s
answer_text (Object kind) s = object_text kind s
answer_text (Select room) s = select_text 0x00 room s
answer_text (SelectAgain room) s = select_again_text room s
answer_text (GetData kind room) s = get_data_text kind room s
answer_text (GetResponse room) s = get_response_text room s
answer_text Status s = status_text s
answer_text Cin s = looked_up_text s
answer_text Merge s = merge_text s
answer_text Calls s = calls_text s

-- The same where a name may be no call's.
unfoldable pub named_text : Option VectorCall → List ℕ → List ℕ
named_text (Some call) s = answer_text call s
named_text None s = no_vector
