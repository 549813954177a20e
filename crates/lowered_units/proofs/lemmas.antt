pub mod Behind
pub mod Placing
pub mod Owning
pub mod Standing
