pub mod Labels
pub mod Rising
