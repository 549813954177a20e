pub mod Marks
pub mod Used
