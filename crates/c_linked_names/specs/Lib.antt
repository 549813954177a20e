pub mod LinkedNames
pub mod Laws
