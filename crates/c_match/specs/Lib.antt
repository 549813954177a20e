pub mod Ranges
pub mod Values
pub mod Bytes
pub mod Held
pub mod Left
pub mod Laws
