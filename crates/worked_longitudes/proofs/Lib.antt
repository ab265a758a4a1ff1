mod TwoApart
pub mod FarthestKnown
pub mod EditionsFarthest
mod WorkedLongitude
