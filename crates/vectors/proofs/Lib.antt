-- Laws that the proofs of this crate share.
-- CallsLaws: lists of direct calls
-- InputLaws: the lines of the input, and bytes moved to the front of a buffer
pub mod CallsLaws
pub mod InputLaws
-- RowLaws: the table of names
pub mod RowLaws
