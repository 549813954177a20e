pub mod SourceFaults
pub mod Evaluation
pub mod OneRefusal
pub mod ProgramRan
