pub mod Argument
pub mod PrintedArguments
pub mod Rows
pub mod Sizes
