-- What the contracts of this crate mean.
-- Hex: bytes in hexadecimal
-- Form: strings with digits at given places
pub mod Hex
pub mod Form
