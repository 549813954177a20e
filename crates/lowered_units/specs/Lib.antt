pub mod Tables
pub mod LoweredUnits
pub mod Laws
