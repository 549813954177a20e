pub mod Accesses
pub mod Pointers
pub mod Lifetimes
