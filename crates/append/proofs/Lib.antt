-- The laws of this crate's definitions.
-- AppendLaws: texts added one after another, also by a loop, and numbers in decimal
-- LentLaws: the same in a lent buffer
pub mod AppendLaws
pub mod LentLaws
