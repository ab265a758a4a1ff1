pub mod Orbit
pub mod Sizes
