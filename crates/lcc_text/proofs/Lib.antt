pub mod lemmas
pub mod FirstLine
pub mod Decimals
