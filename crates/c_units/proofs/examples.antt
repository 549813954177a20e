pub mod StatementExamples
pub mod DefinitionExamples
pub mod EndExamples
mod UnitExamples
