pub mod Cases
pub mod Order
pub mod Cuts
pub mod Tables
pub mod Searches
pub mod Laws
