pub mod Declares
pub mod DeclaredIn
pub mod Fitting
pub mod LoneTags
pub mod Named
