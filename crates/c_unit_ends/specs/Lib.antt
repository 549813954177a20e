pub mod MainFunction
pub mod NameFaults
pub mod Over
pub mod Standing
pub mod TentativeObjects
pub mod Uses
