pub mod CardsInWords
pub mod CardWords
