-- The laws of this crate's definitions.
-- LineLaws: a line and its key
-- LinesLaws: lines of a text, and the text of keys
-- ListTextLaws: what is written is read back, what is read is written back, and what is found
-- CancelledLaws: the list as text and the list in which a key is looked up
-- MergeLaws: the merge of two lists, what the call answers and what it leaves
-- MergeCodeLaws: how the code goes along both lists
-- TurnLaws: a loop over an iterator and its places
-- CinLaws: the number on the back of a card
-- VisualTextLaws: what the lines of a text are; what is written as lines of digits is read as those numbers, and a text whose lines are all good is such lines; no line is good in both lists
-- VisualLaws: what a look-up answers
-- VisualCodeLaws: how the code goes about it: the line that a text begins with, and a pass over the lines
pub mod LineLaws
pub mod LinesLaws
pub mod ListTextLaws
pub mod CancelledLaws
pub mod MergeLaws
pub mod MergeCodeLaws
pub mod TurnLaws
pub mod CinLaws
pub mod VisualTextLaws
pub mod VisualLaws
pub mod VisualCodeLaws
