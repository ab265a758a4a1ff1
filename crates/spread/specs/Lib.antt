-- The choice, which the promises cite; then what its parts owe.
pub mod Spread
pub mod Parts
