pub mod lemmas
mod Examples
pub mod Halves
pub mod Holding
pub mod KnownLoads
pub mod Puts
pub mod Wholes
