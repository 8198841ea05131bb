-- The laws of this crate's definitions.
-- HexLaws: what is written in hexadecimal is read back, and what is read is written back
pub mod HexLaws
-- FormLaws: a string between two others, byte by byte
pub mod FormLaws
