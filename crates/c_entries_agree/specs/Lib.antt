pub mod Standpoints
pub mod Lowered
pub mod Activations
pub mod Laws
