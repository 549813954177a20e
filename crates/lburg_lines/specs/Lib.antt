pub mod Tokens
pub mod Spelling
pub mod Sections
pub mod Numbers
pub mod NamedTree
pub mod Grammar
pub mod Readings
