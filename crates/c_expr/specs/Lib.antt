pub mod Answers
pub mod Links
pub mod Productions
pub mod State
pub mod Words
pub mod NameLists
