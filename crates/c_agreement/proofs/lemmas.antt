pub mod Ends
pub mod Ahead
pub mod Sentences
pub mod Turns
