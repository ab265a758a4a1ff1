pub mod Epoch
pub mod Sizes
