pub mod Qualifying
pub mod Extending
