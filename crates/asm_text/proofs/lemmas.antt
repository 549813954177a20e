pub mod CodeLines
pub mod ReadPrograms
pub mod RunLaws
