mod Counted
mod Steps
mod Choices
mod AtOnce
