pub mod Scenes
pub mod LoweredExpr
pub mod Laws
