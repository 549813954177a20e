pub mod lemmas
pub mod Members
pub mod Registers
pub mod Steady
pub mod Splits
pub mod Following
pub mod Agreement
pub mod Parts
pub mod Joining
pub mod Still
pub mod Stretches
pub mod Emitting
pub mod Forests
pub mod WellFormedRoots
mod examples
