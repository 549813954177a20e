mod examples
pub mod lemmas
pub mod Copies
