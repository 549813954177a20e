pub mod Tails
pub mod Reached
pub mod Ended
