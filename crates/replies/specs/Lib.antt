-- The definitions that the contracts and the theorems cite.
pub mod Commands
pub mod Answers
pub mod Sizes
