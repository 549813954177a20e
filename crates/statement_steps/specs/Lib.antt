pub mod Progresses
pub mod Numbering
pub mod Functions
pub mod Places
pub mod Sides
pub mod Laid
