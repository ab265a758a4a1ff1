pub mod ExactSums
pub mod Editions
pub mod EditionBound
pub mod LargestSum
pub mod LongitudeBound
pub mod EditionsApart
pub mod LeftOut
pub mod ShortCost
