pub mod Term
pub mod Sum
pub mod Notation
pub mod Rows
pub mod Sizes
pub mod Compared
