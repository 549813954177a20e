pub mod lemmas
pub mod Tallies
mod Stays
mod Sound
mod SlotLaws
mod NarrowLaws
pub mod StandingLaws
pub mod Ready
pub mod Fits
pub mod Walked
pub mod PlacedLaws
pub mod Emits
pub mod Counts
pub mod ReleaseLaws
pub mod RootLaws
pub mod TurnLaws
pub mod Finished
mod Weights
mod Thrift
pub mod Splits
mod RunExamples
