pub mod Heap
pub mod IsQueue
pub mod Keys
pub mod Leq
pub mod Linked
pub mod Takes
