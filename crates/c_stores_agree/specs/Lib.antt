pub mod Returns
pub mod Initialisers
