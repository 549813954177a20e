pub mod Added
pub mod AddedRoots
