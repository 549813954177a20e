pub mod ManyValues
pub mod Qualified
