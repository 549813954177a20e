pub mod Decoding
pub mod Divisions
pub mod Fetches
pub mod Loads
pub mod Lost
pub mod Steps
pub mod Stores
pub mod Words
