pub mod Stand
pub mod Data
pub mod Still
pub mod Initial
pub mod Laws
pub mod Fitting
pub mod Numbering
