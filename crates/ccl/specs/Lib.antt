-- What the contracts of this crate mean.
-- Line: a list line and its key
-- ListText: a list's text and its keys
-- Merge: two lists of keys as one
-- Cin: the number on the back of a card
-- Visual: a visual list's text and its numbers
-- VisualCode: how the code goes about a visual list; no public contract cites it
pub mod Line
pub mod ListText
pub mod Merge
pub mod Cin
pub mod Visual
pub mod VisualCode
