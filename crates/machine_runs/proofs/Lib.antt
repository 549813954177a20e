pub mod lemmas
pub mod Ongoing
pub mod Gathering
mod examples
