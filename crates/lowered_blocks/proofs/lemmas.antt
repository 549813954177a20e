pub mod PlainTemplates
pub mod Naming
pub mod PlainRoots
pub mod Steps
pub mod ExpressionNames
