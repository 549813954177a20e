pub mod Places
pub mod Renaming
pub mod Counts
pub mod Stretches
pub mod Values
pub mod Spilling
pub mod Runs
pub mod Allocation
