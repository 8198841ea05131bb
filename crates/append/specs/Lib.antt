-- What the contracts of this crate mean.
-- Append: text in a buffer, one of fixed size or a lent one, texts one after another, and numbers as text
pub mod Append
