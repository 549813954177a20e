pub mod Threads
pub mod TypingRows
pub mod TypingFaults
pub mod DeclaringRows
pub mod DeclaringFaults
