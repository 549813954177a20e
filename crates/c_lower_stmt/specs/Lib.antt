pub mod Trees
pub mod Ways
pub mod Bodies
