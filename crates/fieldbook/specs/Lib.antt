-- The shot, which the promises cite; then what its parts owe.
pub mod Shot
pub mod Parts
pub mod Astrometry
pub mod Bodies
