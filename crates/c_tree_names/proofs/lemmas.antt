pub mod Named
pub mod ExprsNamed
pub mod UnitsNamed
pub mod Lexed
