pub mod Marks
pub mod Lowering
pub mod Pairs
pub mod Connected
pub mod Passing
pub mod Places
pub mod Keeping
