pub mod Commands
pub mod Causes
pub mod Headline
pub mod RunAnswer
