-- What the proofs of several functions use.
pub mod Bodies
pub mod Decided
