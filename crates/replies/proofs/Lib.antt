-- What the proofs of several functions use.
pub mod Grammar
pub mod Reading
pub mod ReadAnswersText
pub mod NeverEleven
pub mod LongLines
