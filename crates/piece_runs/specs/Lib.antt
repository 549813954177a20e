pub mod Pieces
pub mod Reaches
pub mod Laws
