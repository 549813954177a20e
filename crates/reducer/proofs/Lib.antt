pub mod Kept
pub mod Listed
pub mod Values
pub mod Visits
pub mod BestRun
