pub mod Searching
pub mod Filling
pub mod Looping
pub mod Statements
pub mod Lowest
