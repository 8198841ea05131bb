-- What the contracts of this crate mean.
-- Image: a session as bytes, and back
pub mod Image
-- Call: what the calls leave, and demand 3 at the boundary
pub mod Call
