pub mod Room
pub mod Compilation
pub mod InputFaults
