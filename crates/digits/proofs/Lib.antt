-- The theorems on the text, and then what the proofs of several functions use.
pub mod AtMostFifteen
pub mod NoLeadingZero
pub mod TellsApart
pub mod Decimal
pub mod Lists
