pub mod Valued
pub mod Folding
pub mod Signs
pub mod Stays
pub mod PlainTypes
pub mod TooDeep
pub mod Passing
pub mod Giving
