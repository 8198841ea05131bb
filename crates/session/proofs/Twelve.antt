-- Document 01's proofreader's twelve, the stamp of its printed example before request 7 of document 02 and since, commands after a 6C (request 1), its object with the older elements, and the
-- range of the parts (request 5), and the command of step 2 (request 7): one table, and one theorem over it.
-- Assumes nothing.
use mathlib.Core.Path.{◌≡◌, refl}
use mathlib.Core.Bool.{cond}
use mathlib.Core.List.{List, [], ◌∷◌, ◌++◌, map}
use Prim.Native.Nat.{ℕ}
use lib.ListN.{replicate, set}
use Rattle.common.specs.Lists.{list_of, slice_of, all, number, xor_of, same_bytes}
use Rattle.common.specs.Decimal.{is_digit_at, spelled}
use Rattle.card.specs.Date.{days_in, real_date, good_date, date_of}
use Rattle.card.specs.Template.{tlvs_from, tlvs_of, every, whole_to, lengths_of, just_one, good_value, good_from, template_of}
use Rattle.card.specs.Command.{get_response_bytes, select_bytes, get_data_bytes, with_last, status_of}
use Rattle.card.specs.Object.{part, empty, rows_of, field_from, row_field, fields_from, fields_answer, object_from, object_of, part_in, bytes_at, field_value, object_tag}
use Rattle.card.specs.Tlv.{tag_size, tag_number, length_size, length_of, ending_of, after_tag, header_of, only_from, only_of}
use Rattle.card.specs.declared.object.Kind.TheVariants.{Unsigned}
use Rattle.card.specs.declared.object.Part.{Part}
use Rattle.card.specs.Fascn.{bit_at, value_at, odd_at, values_in, digits_from, marks_from, decimal_at, check_value, unpack_refusal, unpack_of, char_bit, sent_bit, bytes_of, values_from, values_of, pack_refusal, pack_of, key_of}
use Rattle.session.specs.Tables as tables
use Rattle.session.specs.Reading.{Opening, Arguments, Reading, begins, next_command, command_refused, answer_refused, good_end, judged, answer_taken, verdict_refused, read, reading, field_in}
use Rattle.session.specs.Finding.{finding, stamp_of}
use Rattle.session.specs.Ranges.{outcomes_in_range, parts_inside, ranged_values, values_in_range, in_range}
use Rattle.session.specs.Operation.{no_parts, opened}

-- The sample FASC-N without its last byte, and its digits.
sample : List ℕ
sample =
    0xd4 ∷ 0x32 ∷ 0x48 ∷ 0x58 ∷ 0x21 ∷ 0x0c ∷ 0x2d ∷ 0x31 ∷ 0x71 ∷ 0xb5 ∷ 0x25 ∷ 0xa1 ∷ 0x68 ∷ 0x5a ∷ 0x08 ∷ 0xc9 ∷ 0x2a ∷ 0xde
    ∷ 0x0a ∷ 0x61 ∷ 0x84 ∷ 0x32 ∷ 0x48 ∷ 0x43 ∷ []

digits : List ℕ
digits =
    1 ∷ 3 ∷ 4 ∷ 1 ∷ 0 ∷ 0 ∷ 0 ∷ 1 ∷ 9 ∷ 8 ∷ 7 ∷ 6 ∷ 5 ∷ 4 ∷ 1 ∷ 1 ∷ 1 ∷ 2 ∷ 3 ∷ 4 ∷ 5 ∷ 6 ∷ 7 ∷ 8 ∷ 9 ∷ 0 ∷ 1 ∷ 1 ∷ 3 ∷ 4 ∷ 1 ∷ 1 ∷ []

-- What unpack answers, as a list: the number, then the digits.
answer : List ℕ → List ℕ
answer s = (unpack_of s).0 ∷ (unpack_of s).1

-- Whether a number is a real date: 1 for real.
real : ℕ → List ℕ
real n = cond (real_date n) 1 0 ∷ []

-- The fields of the unsigned object of document 01's gate session: 30 with the sample FASC-N, 35 with 20110410, FE.
fields : List ℕ
fields =
    (0x30 ∷ 0x19 ∷ []) ++ sample ++ (0xe2 ∷ 0x35 ∷ 0x08 ∷ 0x32 ∷ 0x30 ∷ 0x31 ∷ 0x31 ∷ 0x30 ∷ 0x34 ∷ 0x31 ∷ 0x30 ∷ 0xfe ∷ 0x00 ∷ [])

-- What the object reader answers of an unsigned object, as a list: the cause, then start and length of the fields 30, 34 and 35.
place : List ℕ → ℕ → List ℕ
place s tag = let p = part_in (rows_of Unsigned) (object_of Unsigned s).1 tag in p.start ∷ p.len ∷ []

object : List ℕ → List ℕ
object s = ((object_of Unsigned s).0 ∷ []) ++ place s 0x30 ++ place s 0x34 ++ place s 0x35

-- The opening and the calls of document 01's example, with another date: an answer follows each command call.
opening : ℕ → Opening
opening date = record { mode = 2; date = date; aid = 0xA0 ∷ 0x00 ∷ 0x00 ∷ 0x03 ∷ 0x67 ∷ 0x20 ∷ 0x00 ∷ 0x00 ∷ 0x01 ∷ 0x01 ∷ 0x03 ∷ [] }

-- its first answer
template : List ℕ
template = 0x61 ∷ 0x08 ∷ 0x4F ∷ 0x06 ∷ 0x20 ∷ 0x00 ∷ 0x00 ∷ 0x01 ∷ 0x01 ∷ 0x03 ∷ 0x90 ∷ 0x00 ∷ []

answered_by : tables.Figures → List ℕ → List Arguments → List Arguments
answered_by f bytes ts = Arguments.command 261 ∷ Arguments.answer f.object_size bytes [] ∷ ts

example : tables.Figures → ℕ → Reading
unfolding answered_by template opening sample fields
example f date =
    reading (begins f (opening date))
    (answered_by f template
    (answered_by f ((0x53 ∷ 0x27 ∷ []) ++ fields ++ (0x90 ∷ 0x00 ∷ []))
    (Arguments.verdict 3 1 (sample ++ (0xe2 ∷ [])) ∷ [])))

-- The object of the example with the older elements: EE before 30, and 31, 32 and 33 straight after it.
buffer_length : List ℕ
buffer_length = 0x3E ∷ 0x00 ∷ []

agency : List ℕ
agency = 0x37 ∷ 0x30 ∷ 0x41 ∷ 0x42 ∷ []

organization : List ℕ
organization = 0x31 ∷ 0x32 ∷ 0x43 ∷ 0x44 ∷ []

duns : List ℕ
duns = 0x31 ∷ 0x32 ∷ 0x33 ∷ 0x34 ∷ 0x35 ∷ 0x36 ∷ 0x37 ∷ 0x38 ∷ 0x39 ∷ []

older : List ℕ
unfolding sample buffer_length agency organization duns
older =
    (0x53 ∷ 0x42 ∷ 0xEE ∷ 0x02 ∷ []) ++ buffer_length ++ (0x30 ∷ 0x19 ∷ []) ++ sample ++ (0xe2 ∷ 0x31 ∷ 0x04 ∷ []) ++ agency ++ (0x32 ∷ 0x04 ∷ []) ++ organization ++ (0x33 ∷ 0x09 ∷ []) ++ duns
    ++ (0x35 ∷ 0x08 ∷ 0x32 ∷ 0x30 ∷ 0x31 ∷ 0x31 ∷ 0x30 ∷ 0x34 ∷ 0x31 ∷ 0x30 ∷ 0xfe ∷ 0x00 ∷ [])

-- What a field call gives once this object is read.
older_field : ℕ → List ℕ
unfolding answered_by template opening older
older_field tag = field_in (reading (begins tables.since (opening 20110410)) (answered_by tables.since template (answered_by tables.since (older ++ (0x90 ∷ 0x00 ∷ [])) []))) tag

-- Whether a session in mode 4 is in range that has this part at a place among those of step 1, the other parts of step 1 empty, and this part of step 2: 1 for in range.
with_parts : ℕ → Part → Part → List ℕ
with_parts i one two =
    let s = opened 4 20110410 (replicate 5 0) in
    cond (in_range (record { opening = s.opening; progress = s.progress; outcomes = s.outcomes; card = record { fascn = s.card.fascn; expiry = 0; step1 = set no_parts i one; step2 = two } })) 1 0 ∷ []

-- The command after so many calls.
next_after : List Arguments → List ℕ
unfolding opening
next_after calls = next_command (reading (begins tables.since (opening 20110410)) calls)

-- What the definitions give, beside what documents 01 and 02 say. Document 01: a, its check value, b, c; d, e, f, g; h, with 53 27 and with 53 81 27, where all starts are one more; i; j and k,
-- the outcome of check 3 where the example is opened on its expiry, 20110410, and a day later; l; the example's stamp, as document 01 prints it, by the figures before request 7, and since, "with outcome 7 after outcome 6". Request 1 of document 02: the command after 6C 0D to SELECT, after
-- 61 0D to that, after 6C 08 to the GET RESPONSE, and after 6C 29 to GET DATA. Request 5: the places of 30, 34 and 35 in the object
-- with the older elements; what a field call gives of it for EE, 30, 31, 32, 33, 34, which is absent, and 35; and the session's range "field parts inside 20,480" (request 7), with the first and the last part of step 1 and that of step 2, which begins at 4,096: they end at 20,480,
-- or one of them a byte past it. Request 7: the command of step 2 in modes 4 and 5.
pub table : List (List ℕ × List ℕ)
unfolding sample digits fields opening template answered_by next_after buffer_length agency organization duns older_field with_parts
table =
    (answer (sample ++ (0xe2 ∷ [])), 0 ∷ digits)
    ∷ (check_value (values_in (sample ++ (0xe2 ∷ []))) ∷ [], 8 ∷ [])
    ∷ (answer (sample ++ (0xe3 ∷ [])), 16 ∷ replicate 32 0)
    ∷ (answer sample, 15 ∷ replicate 32 0)
    ∷ (real 20240229, 1 ∷ [])
    ∷ (real 20230229, 0 ∷ [])
    ∷ (real 21000229, 0 ∷ [])
    ∷ (real 20000229, 1 ∷ [])
    ∷ (object (0x53 ∷ 0x27 ∷ fields), 0 ∷ 4 ∷ 25 ∷ 0 ∷ 0 ∷ 31 ∷ 8 ∷ [])
    ∷ (object (0x53 ∷ 0x81 ∷ 0x27 ∷ fields), 0 ∷ 5 ∷ 25 ∷ 0 ∷ 0 ∷ 32 ∷ 8 ∷ [])
    ∷ (object (0x53 ∷ 0x80 ∷ fields), 20 ∷ replicate 6 0)
    ∷ (tables.outcome_of (example tables.since 20110410).outcomes 3 ∷ [], 2 ∷ [])
    ∷ (tables.outcome_of (example tables.since 20110411).outcomes 3 ∷ [], 3 ∷ [])
    ∷ (next_after (answered_by tables.since (0x61 ∷ 0x00 ∷ []) []), 0x00 ∷ 0xC0 ∷ 0x00 ∷ 0x00 ∷ 0x00 ∷ [])
    ∷ (stamp_of (finding (example tables.before 20110410)), (0x02 ∷ 0x01 ∷ 0x00 ∷ 0x00 ∷ 0x00 ∷ 0x03 ∷ 0x00 ∷ 0x00 ∷ 0x02 ∷ 0x02 ∷ 0x02 ∷ 0x00 ∷ 0x01 ∷ 0x32 ∷ 0xDC ∷ 0x4A ∷ []) ++ sample ++ (0xe2 ∷ 0x01 ∷ 0x32 ∷ 0xDC ∷ 0x4A ∷ []))
    ∷ (stamp_of (finding (example tables.since 20110410)), (0x02 ∷ 0x01 ∷ 0x00 ∷ 0x00 ∷ 0x00 ∷ 0x03 ∷ 0x00 ∷ 0x00 ∷ 0x02 ∷ 0x02 ∷ 0x02 ∷ 0x00 ∷ 0x00 ∷ 0x01 ∷ 0x32 ∷ 0xDC ∷ 0x4A ∷ []) ++ sample ++ (0xe2 ∷ 0x01 ∷ 0x32 ∷ 0xDC ∷ 0x4A ∷ []))
    ∷ (next_after (answered_by tables.since (0x6C ∷ 0x0D ∷ []) []), 0x00 ∷ 0xA4 ∷ 0x04 ∷ 0x00 ∷ 0x0B ∷ 0xA0 ∷ 0x00 ∷ 0x00 ∷ 0x03 ∷ 0x67 ∷ 0x20 ∷ 0x00 ∷ 0x00 ∷ 0x01 ∷ 0x01 ∷ 0x03 ∷ 0x0D ∷ [])
    ∷ (next_after (answered_by tables.since (0x6C ∷ 0x0D ∷ []) (answered_by tables.since (0x61 ∷ 0x0D ∷ []) [])), 0x00 ∷ 0xC0 ∷ 0x00 ∷ 0x00 ∷ 0x0D ∷ [])
    ∷ (next_after (answered_by tables.since (0x6C ∷ 0x0D ∷ []) (answered_by tables.since (0x61 ∷ 0x0D ∷ []) (answered_by tables.since (0x6C ∷ 0x08 ∷ []) []))), 0x00 ∷ 0xC0 ∷ 0x00 ∷ 0x00 ∷ 0x08 ∷ [])
    ∷ (next_after (answered_by tables.since template (answered_by tables.since (0x6C ∷ 0x29 ∷ []) [])), 0x00 ∷ 0xCB ∷ 0x3F ∷ 0xFF ∷ 0x05 ∷ 0x5C ∷ 0x03 ∷ 0x5F ∷ 0xC1 ∷ 0x04 ∷ 0x29 ∷ [])
    ∷ (object older, 0 ∷ 8 ∷ 25 ∷ 0 ∷ 0 ∷ 58 ∷ 8 ∷ [])
    ∷ (older_field 0xEE, buffer_length)
    ∷ (older_field 0x30, sample ++ (0xe2 ∷ []))
    ∷ (older_field 0x31, agency)
    ∷ (older_field 0x32, organization)
    ∷ (older_field 0x33, duns)
    ∷ (older_field 0x34, [])
    ∷ (older_field 0x35, 0x32 ∷ 0x30 ∷ 0x31 ∷ 0x31 ∷ 0x30 ∷ 0x34 ∷ 0x31 ∷ 0x30 ∷ [])
    ∷ (with_parts 0 (part 20479 1) (part 16383 1), 1 ∷ [])
    ∷ (with_parts 8 (part 20479 1) (part 16383 1), 1 ∷ [])
    ∷ (with_parts 0 (part 20479 2) empty, 0 ∷ [])
    ∷ (with_parts 8 (part 20479 2) empty, 0 ∷ [])
    ∷ (with_parts 0 empty (part 16383 2), 0 ∷ [])
    ∷ (tables.command_bytes 4 [] 2 tables.NextCommand.of_step, 0x00 ∷ 0xCB ∷ 0x3F ∷ 0xFF ∷ 0x05 ∷ 0x5C ∷ 0x03 ∷ 0xDF ∷ 0xC1 ∷ 0x03 ∷ 0x00 ∷ [])
    ∷ (tables.command_bytes 5 [] 2 tables.NextCommand.of_step, 0x00 ∷ 0xCB ∷ 0x3F ∷ 0xFF ∷ 0x05 ∷ 0x5C ∷ 0x03 ∷ 0xDF ∷ 0xC1 ∷ 0x08 ∷ 0x00 ∷ [])
    ∷ []

pub twelve : map (λ row. row.0) table ≡ map (λ row. row.1) table
unfolding example older older_field with_parts opened outcomes_in_range parts_inside ranged_values values_in_range in_range tables.base_of field_in next_after opening template answered_by tables.step_of_tag tables.object_size tables.capacity tables.needs tables.check_served tables.needed_at tables.needed_outcomes tables.verdict_outcome tables.expiry_outcome tables.list_outcome tables.lowest_from tables.cause_of tables.all_passed tables.standing_of tables.command_bytes tables.rule_cause tables.object_cause tables.joined_cause tables.stamp_layout command_refused answer_refused good_end judged answer_taken verdict_refused read finding stamp_of number same_bytes is_digit_at spelled good_date date_of tlvs_from tlvs_of every whole_to lengths_of just_one good_value good_from template_of get_response_bytes select_bytes get_data_bytes with_last status_of bytes_at field_value object_tag char_bit sent_bit bytes_of values_from values_of pack_refusal pack_of key_of table answer real object place part_in real_date days_in object_of object_from fields_answer fields_from row_field field_from rows_of only_of only_from header_of after_tag ending_of tag_size tag_number length_size length_of unpack_of unpack_refusal bit_at value_at odd_at values_in digits_from marks_from decimal_at check_value all list_of slice_of xor_of
twelve = refl
