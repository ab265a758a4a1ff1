pub mod Sine
pub mod SineContract
