pub mod Runs
pub mod Keys
pub mod Places
pub mod Stopping
