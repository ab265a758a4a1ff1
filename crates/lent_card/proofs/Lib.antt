pub mod WordsFollowTheCard
pub mod ByCard
