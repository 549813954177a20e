pub mod FirstForest
pub mod Size
pub mod Meaning
