pub mod Count
pub mod AcceptedRange
