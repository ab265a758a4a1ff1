pub mod Rotation
pub mod Length
pub mod Sizes
