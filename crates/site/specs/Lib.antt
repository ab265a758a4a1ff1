pub mod Site
pub mod Sizes
