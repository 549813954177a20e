pub mod AtOnce
pub mod Counts
pub mod Plain
