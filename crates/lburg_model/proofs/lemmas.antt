pub mod Laws
pub mod DerivationOf
