pub mod Walk
pub mod Names
pub mod Builders
pub mod NamesWalk
pub mod Initialisers
pub mod Laws
pub mod Keeping
