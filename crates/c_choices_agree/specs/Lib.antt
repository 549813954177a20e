pub mod Truths
pub mod Conditionals
