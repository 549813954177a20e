pub mod Spelling
pub mod Lists
pub mod Apart
pub mod Building
