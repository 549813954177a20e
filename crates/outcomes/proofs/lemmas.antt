pub mod Works
pub mod Causes
pub mod Told
