pub mod StatementRows
pub mod UnitRows
pub mod Nodes
pub mod StatementFaults
pub mod UnitFaults
mod examples
