pub mod Series
pub mod Editions
pub mod Tolerance
pub mod Longitude
pub mod Direction
pub mod ShortCost
