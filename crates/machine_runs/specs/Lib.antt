pub mod Turns
pub mod Endings
