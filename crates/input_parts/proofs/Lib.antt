pub mod lemmas
pub mod LineEnds
pub mod Passed
