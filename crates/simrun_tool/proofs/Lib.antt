pub mod lemmas
pub mod Apart
pub mod Simulated
pub mod Worked
pub mod Stepping
