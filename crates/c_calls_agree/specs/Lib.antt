pub mod Programs
pub mod Passing
pub mod Given
pub mod Laws
