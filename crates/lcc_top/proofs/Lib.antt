pub mod Pieces
pub mod Served
pub mod Headlines
pub mod RunAnswers
