pub mod Working
pub mod Frames
pub mod Matches
pub mod Programs
pub mod Places
pub mod WholePrograms
