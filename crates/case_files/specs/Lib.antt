pub mod Hexadecimal
pub mod Repetition
