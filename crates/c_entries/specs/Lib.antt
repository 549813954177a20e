pub mod Arguments
pub mod Callees
pub mod Copied
pub mod Entered
pub mod Fitting
pub mod Left
pub mod Provides
