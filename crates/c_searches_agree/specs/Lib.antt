pub mod Jumps
pub mod Laws
pub mod Lengths
