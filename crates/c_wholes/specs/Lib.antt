pub mod TextLists
pub mod Kinds
pub mod Literals
pub mod Placing
pub mod Numbering
