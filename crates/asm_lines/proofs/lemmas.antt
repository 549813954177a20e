pub mod Numerals
pub mod Next
pub mod Written
pub mod LabelBack
