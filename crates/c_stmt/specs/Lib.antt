pub mod Listed
pub mod Productions
pub mod Seen
pub mod Units
pub mod Words
