pub mod Comings
pub mod LoweredStmt
pub mod Laws
