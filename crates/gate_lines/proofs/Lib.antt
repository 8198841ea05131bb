-- Laws of this crate's definitions.
-- LineLaws: a line as a value
-- LineTextLaws: the text of such a value
-- ReplyTextLaws: what is printed at once, put together
-- LentLaws: what a line lends to a call, and a card that is kept
-- LineRunLaws: a line of each kind
-- RunLaws: the promise over every list of lines
-- PrintedLaws: what a line prints, by the reading
-- EndLaws: what is printed at the end
-- AnswerLineLaws: an answer line is never declined for want of room
-- InputLaws: the input cut into lines, in whatever blocks it arrives
-- LinesLaws: lines put together, and cut again
-- FeedLaws: a part of a block fed
-- MergedListLaws: check 4 on two lists merged; it stands here since this crate has both the lists and the session
pub mod LineLaws
pub mod LineTextLaws
pub mod ReplyTextLaws
pub mod LentLaws
pub mod LineRunLaws
pub mod RunLaws
pub mod PrintedLaws
pub mod EndLaws
pub mod AnswerLineLaws
pub mod InputLaws
pub mod LinesLaws
pub mod FeedLaws
pub mod MergedListLaws
