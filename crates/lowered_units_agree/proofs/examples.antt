pub mod LoweringExamples
