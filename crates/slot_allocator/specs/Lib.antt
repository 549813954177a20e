pub mod Slots
pub mod SlotCounts
