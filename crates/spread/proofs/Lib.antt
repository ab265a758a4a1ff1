-- `Pass`: one pass over a list. `Extremes`: its largest and its smallest. `Ends`: all results are angles where these two are. `LargestDifference`: what the
-- spread is. `Tests`: two tests of which one fails.
pub mod Pass
pub mod Extremes
pub mod Ends
pub mod LargestDifference
pub mod Tests
