-- What the contracts of this crate mean.
-- LineText: the text of a line
pub mod LineText
