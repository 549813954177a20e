pub mod lemmas
mod examples
pub mod Growing
pub mod Alike
pub mod AlikeStatements
pub mod Further
pub mod Apart
pub mod Words
pub mod Each
pub mod SoundValues
pub mod Sound
pub mod SoundRuns
pub mod Locals
pub mod Passed
pub mod Tame
