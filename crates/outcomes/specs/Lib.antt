pub mod Status
pub mod FaultName
pub mod Outcome
pub mod Behaviour
pub mod Work
pub mod Call
pub mod Answers
