pub mod UnitExamples
