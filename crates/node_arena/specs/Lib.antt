pub mod ArenaLends
pub mod Chunks
pub mod Values
