-- What the contracts of all crates share.
-- Lists: lists, tests and numbers by index, a number in a list, and lists compared
pub mod Lists
-- Decimal: decimal digits in ASCII, the number that they spell, and the digits of a number
pub mod Decimal
-- Refusal: the first condition of a list that fits
pub mod Refusal
-- Bytes: where a byte stands in a list
pub mod Bytes
