pub mod Known
pub mod Expressions
