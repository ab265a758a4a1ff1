-- The definitions that the contracts and the theorems cite.
pub mod Bytes
pub mod Numerals
pub mod Appending
