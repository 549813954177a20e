pub mod Ways
pub mod Tables
pub mod Parts
pub mod CheckedParts
pub mod Jumps
pub mod Labels
pub mod Laws
pub mod FunctionBodies
