pub mod Templates
pub mod Typed
pub mod Integers
pub mod Places
pub mod Fitting
pub mod Laws
pub mod FitLaws
pub mod Stays
