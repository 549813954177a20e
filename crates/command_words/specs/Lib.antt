pub mod Found
pub mod OptionWords
pub mod NumberWords
pub mod RunWords
pub mod CevalWords
pub mod Commands
