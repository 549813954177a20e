pub mod lemmas
pub mod PrintedRoots
