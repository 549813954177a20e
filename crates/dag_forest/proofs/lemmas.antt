pub mod Maps
pub mod Once
pub mod Chosen
pub mod Keys
pub mod Listed
pub mod Frames
