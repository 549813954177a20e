pub mod CaseLists
pub mod StatementsSeen
pub mod ElseLabels
pub mod BodiesSeen
pub mod StatementsIn
pub mod Asked
pub mod Heads
