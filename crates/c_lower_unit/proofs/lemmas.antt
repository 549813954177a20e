pub mod Adding
pub mod Tabling
