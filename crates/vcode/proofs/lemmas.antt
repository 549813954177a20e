pub mod Deriving
pub mod Leaves
pub mod SlotValues
