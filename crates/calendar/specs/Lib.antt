pub mod Date
pub mod Time
pub mod Sizes
