pub mod Counted
pub mod Labels
pub mod Slots
pub mod Frames
