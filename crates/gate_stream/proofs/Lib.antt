-- The laws of this crate's definitions.
-- StreamLaws: what was fed to the program, part by part, and what is gathered to be written
pub mod StreamLaws
