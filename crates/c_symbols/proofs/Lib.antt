pub mod Naming
pub mod Within
pub mod Meaning
pub mod Hiding
pub mod Steps
pub mod Keeping
