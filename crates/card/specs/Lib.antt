-- The definitions that the contracts and the theorems cite.
pub mod Fields
pub mod Calls
pub mod Confirmed
pub mod History
