pub mod LocalNames
pub mod Laws
