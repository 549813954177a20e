pub mod lemmas
pub mod ClassWords
pub mod OptionRows
pub mod Given
mod examples
