pub mod Cases
pub mod Labels
pub mod Slots
pub mod Frames
