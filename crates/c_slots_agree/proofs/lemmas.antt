pub mod Taken
pub mod Reads
pub mod Storing
pub mod Holding
