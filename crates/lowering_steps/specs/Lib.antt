pub mod Operands
pub mod Asking
pub mod Branching
pub mod Fielding
pub mod States
