mod Samples
mod LoopExamples
mod SwitchExamples
mod FunctionExamples
mod RelationExamples
mod InitialiserExamples
