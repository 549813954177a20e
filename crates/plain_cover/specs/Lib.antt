pub mod Height
pub mod Room
pub mod Told
pub mod Less
pub mod IsLeastOf
pub mod Within
pub mod AreRules
