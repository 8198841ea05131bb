-- The laws of what all crates share.
-- TestLaws: tests
pub mod TestLaws
-- ListsLaws: lists and tests by index, and what a loop adds to them
pub mod ListsLaws
-- MemberLaws: a number in a list
pub mod MemberLaws
-- PassingLaws: how many tests pass before the first that does not
pub mod PassingLaws
-- LoopLaws: a loop that writes places of a list, and one that makes tests
pub mod LoopLaws
-- StoreLaws: a list stored in another
pub mod StoreLaws
-- PlaceLaws: the bytes before the first 0A
pub mod PlaceLaws
-- NumberLaws: numbers and their digits to a base
pub mod NumberLaws
-- DecimalLaws: decimal digits in ASCII
pub mod DecimalLaws
-- XorLaws: the exclusive or
pub mod XorLaws
-- FoldLaws: what a chain of iterators gives, by index
pub mod FoldLaws
-- ConditionLaws: lists of conditions with their numbers, and an answer by one test
pub mod ConditionLaws
