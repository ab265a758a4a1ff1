-- The definitions that the contracts and the theorems cite.
pub mod Run
pub mod Feeding
pub mod Sizes
