pub mod Headings
pub mod OldParameters
pub mod OwnParameters
pub mod FunctionsSeen
pub mod Defined
