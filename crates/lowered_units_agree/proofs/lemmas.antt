pub mod Splitting
pub mod Numbering
pub mod Providing
pub mod Tables
pub mod Lowerings
pub mod Fair
