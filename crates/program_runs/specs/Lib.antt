pub mod Reached
pub mod Meant
pub mod Laws
