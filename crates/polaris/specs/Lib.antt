pub mod PrintedElements
pub mod Elements
pub mod Apparent
pub mod Sizes
