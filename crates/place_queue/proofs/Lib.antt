pub mod Holes
pub mod Links
pub mod Queues
pub mod Room
pub mod Turns
