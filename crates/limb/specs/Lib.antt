pub mod Limb
pub mod Sizes
