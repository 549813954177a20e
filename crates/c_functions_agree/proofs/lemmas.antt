pub mod Bodies
pub mod Returning
pub mod Knot
