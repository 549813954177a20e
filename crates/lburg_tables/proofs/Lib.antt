pub mod lemmas
pub mod Lines
pub mod Lists
pub mod Waiting
pub mod Closure
pub mod Chaining
