pub mod Slots
pub mod Passing
pub mod Finishing
pub mod Keeping
pub mod Truths
pub mod Conditionals
