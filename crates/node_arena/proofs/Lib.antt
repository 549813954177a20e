pub mod Cutting
pub mod Filling
pub mod Places
mod TwoLent
