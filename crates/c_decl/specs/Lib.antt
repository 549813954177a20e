pub mod Going
pub mod OldParameters
pub mod Productions
