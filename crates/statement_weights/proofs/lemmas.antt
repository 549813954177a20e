pub mod Stores
pub mod Filling
pub mod Searching
pub mod Looping
pub mod Statements
