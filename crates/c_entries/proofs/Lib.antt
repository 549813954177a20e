pub mod Copied
pub mod Fits
pub mod Handed
pub mod Made
pub mod Passed
pub mod Providing
