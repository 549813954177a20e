pub mod Moves
pub mod Checked
pub mod Laws
pub mod Modest
