-- The theorems of the short series.
pub mod ShortSeriesCosts
