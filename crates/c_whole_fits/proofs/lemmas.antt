pub mod Alike
pub mod Wholes
pub mod Placed
pub mod Stored
pub mod Statements
pub mod Meant
pub mod Bodies
