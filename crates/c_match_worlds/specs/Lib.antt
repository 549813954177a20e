pub mod Matches
pub mod Starts
pub mod Texts
pub mod Laws
