pub mod Runs
pub mod Reduced
pub mod Built
pub mod AreBest
