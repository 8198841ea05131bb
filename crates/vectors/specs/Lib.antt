-- What the contracts of this crate mean.
-- Out: the buffer that the texts of a block are added to
-- RefusalText: the texts of the answers that more than one call gives
-- FascnText, ObjectText, CommandText: the texts of the answers, by crate card's definitions
-- VisualText: the text of the look-up of a typed number, by crate ccl's definitions
-- MergeText: the text of the merge of two lists of keys, by crate ccl's definitions
-- CallsText: lists of direct calls on a session, and the text of what each gives, by crate session's definitions
-- Answer: the calls by name, and the text of each one's answer
-- Line: the parts of a line of the input, and the text that it gives
-- Input: the bytes of the input cut into lines, and all that is printed
-- Ending: why the program ends before its input does
pub mod Out
pub mod RefusalText
pub mod FascnText
pub mod ObjectText
pub mod CommandText
pub mod VisualText
pub mod MergeText
pub mod CallsText
pub mod Answer
pub mod Line
pub mod Input
pub mod Ending
