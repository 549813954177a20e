pub mod Shapes
pub mod OpenStmts
pub mod Functions
pub mod OpenUnits
pub mod Laws
