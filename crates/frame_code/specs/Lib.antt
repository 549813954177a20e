pub mod Instructions
pub mod InstructionLaws
pub mod FrameMachine
pub mod OneInstruction
pub mod CalledNames
