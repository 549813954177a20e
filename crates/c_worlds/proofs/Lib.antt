pub mod Unknown
pub mod lemmas
