pub mod Apart
pub mod Evaluated
