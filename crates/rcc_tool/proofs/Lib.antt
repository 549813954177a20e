pub mod FirstRuns
pub mod Assembled
pub mod Apart
