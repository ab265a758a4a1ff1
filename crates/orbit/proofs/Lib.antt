pub mod Nearest
pub mod RadiusRange
