pub mod Horizon
pub mod Sizes
