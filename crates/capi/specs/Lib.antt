pub mod Interface
pub mod Rows
