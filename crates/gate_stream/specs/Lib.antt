-- What the contracts of this crate mean.
-- Stream: what was fed to the program
pub mod Stream
