-- What the contracts of this crate mean.
-- Tables: document 01's tables, and its rules on single values
pub mod Tables
-- Condition: what each call may decline
pub mod Condition
-- Reading: the reading of an opening and a list of calls
pub mod Reading
-- Finding: the finding of a reading, and its stamp
pub mod Finding
-- Ranges: the ranges of a session's values
pub mod Ranges
-- Operation: what each call gives for a session and the buffers lent
pub mod Operation
-- Promise: demand 3
pub mod Promise
