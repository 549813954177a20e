pub mod Rows
pub mod Listing
pub mod Choosing
pub mod Looping
pub mod Bodying
