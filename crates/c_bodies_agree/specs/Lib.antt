pub mod BuiltIns
pub mod Laws
