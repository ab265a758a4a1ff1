-- What the proofs of several functions use.
pub mod Found
pub mod Appending
pub mod DigitScan
pub mod Parts
pub mod Words
