-- The theorem on chunks, and then what the proofs of several functions use.
pub mod AnyChunks
pub mod Keeping
pub mod Pieces
pub mod Rounds
