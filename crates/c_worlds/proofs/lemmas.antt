pub mod Comings
pub mod Counts
pub mod Stores
