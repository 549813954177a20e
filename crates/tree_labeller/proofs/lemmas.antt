pub mod Totals
pub mod Taken
pub mod Least
pub mod Greatest
pub mod Erased
pub mod Cover
