pub mod Sites
pub mod Gives
pub mod Spotted
pub mod Rows
pub mod Forms
pub mod Sorted
