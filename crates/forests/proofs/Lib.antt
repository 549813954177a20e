pub mod lemmas
mod Samples
mod AddressExamples
mod MemoryExamples
mod NumberExamples
mod BitExamples
mod ControlExamples
mod OperandLists
mod LabelPlaces
mod FirstFaults
mod Reaches
mod RunExamples
mod UnitExamples
