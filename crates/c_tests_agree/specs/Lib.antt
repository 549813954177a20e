pub mod Tested
pub mod Laws
pub mod Scalars
pub mod Connectives
pub mod Comparisons
