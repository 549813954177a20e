pub mod Numbers
pub mod Bits
pub mod Pointers
pub mod Comparisons
pub mod Rows
pub mod Data
