-- What the contracts of this crate mean, and the promise over every list of lines.
-- Line: a line as a value
-- LineText: the text of such a value
-- Gate: what a line does and prints, and what is printed at the end
-- Run: a list of lines, the calls that they make, and the stamp that is printed at the end
-- Input: the input cut into lines, in whatever blocks it arrives
-- LineCode, GateCode: how the code's answers are read
-- InputCode: how far a block is used at once, and the part that is fed
pub mod Line
pub mod LineText
pub mod Gate
pub mod Run
pub mod Input
pub mod LineCode
pub mod GateCode
pub mod InputCode
