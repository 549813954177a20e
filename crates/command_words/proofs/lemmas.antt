pub mod OneCommand
