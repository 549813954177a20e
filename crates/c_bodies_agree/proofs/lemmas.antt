pub mod BuiltIns
pub mod Expressions
pub mod Bodies
pub mod Units
