pub mod Division
pub mod Range
pub mod Reduction
pub mod Century
pub mod Largest
pub mod Decimal
pub mod Nth
pub mod Sizes
