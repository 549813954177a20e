pub mod Known
pub mod RuledRoots
pub mod Running
pub mod Small
pub mod WellFormedRoots
