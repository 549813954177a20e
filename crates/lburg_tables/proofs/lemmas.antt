pub mod AreRules
pub mod Places
pub mod RowLaws
pub mod Weights
