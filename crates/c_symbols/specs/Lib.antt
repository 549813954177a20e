pub mod Scoping
pub mod Entries
pub mod Extending
pub mod Meanings
pub mod Hiding
