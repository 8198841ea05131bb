-- The laws of this crate's definitions.
-- NumberLaws: numbers as bytes, and back; bytes stored
pub mod NumberLaws
-- SegmentLaws: a list cut into segments, and joined
pub mod SegmentLaws
-- ImageLaws: an image and its session
pub mod ImageLaws
-- SaveLaws: the image as the code stores it
pub mod SaveLaws
-- BoundaryLaws: what a call over an image leaves, and demand 3 at the boundary
pub mod BoundaryLaws
-- AnswerLaws: what a call gives through a pointer
pub mod AnswerLaws
