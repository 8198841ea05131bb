-- The laws of this crate's definitions, from the general to the particular. A crate above cites FascnLaws, TlvLaws,
-- TemplateLaws, ObjectLaws, OlderLaws, DateLaws and CommandLaws. RuleLaws: one character, and the rule that it follows
pub mod RuleLaws
-- CharacterLaws: bytes, characters and values
pub mod CharacterLaws
-- OrderLaws: values, digits and marks
pub mod OrderLaws
-- FascnLaws: the laws of unpack, pack, key and equality
pub mod FascnLaws
-- TurnedLaws: a FASC-N with one bit turned
pub mod TurnedLaws
-- TlvLaws: the header of a TLV
pub mod TlvLaws
-- EncoderLaws: what the encoder makes is read back, and what is read is what the encoder makes
pub mod EncoderLaws
-- TemplateLaws: the TLVs of a list, and the walk over them
pub mod TemplateLaws
-- FieldLaws: the fields of an object, and the walk over its rows
pub mod FieldLaws
-- ObjectLaws: the laws of a good object
pub mod ObjectLaws
-- MadeLaws: an object is accepted exactly where the encoder makes it
pub mod MadeLaws
-- OlderLaws: objects with the older elements
pub mod OlderLaws
-- PictureLaws: the object with the picture
pub mod PictureLaws
-- DateLaws: dates, and the order of days
pub mod DateLaws
-- CommandLaws: commands, and the buffer that they are written to
pub mod CommandLaws
