pub mod lemmas
pub mod Finish
pub mod Roots
pub mod Counting
pub mod Choosing
pub mod FlatRows
pub mod Room
pub mod MergedRows
