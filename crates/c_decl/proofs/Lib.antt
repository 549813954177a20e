pub mod lemmas
mod Places
mod OldParameters
mod Exits
