pub mod BuiltIns
pub mod OpenLocals
pub mod Programs
pub mod Shown
pub mod Stops
