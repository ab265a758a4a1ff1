pub mod Components
pub mod ToHorizon
