pub mod Waiting
pub mod Plain
