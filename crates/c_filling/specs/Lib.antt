pub mod Filled
pub mod Starts
