pub mod Nutation
pub mod Sidereal
pub mod FrameContract
