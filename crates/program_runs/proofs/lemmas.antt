pub mod Prefixes
pub mod RunsOn
pub mod Points
pub mod Counted
