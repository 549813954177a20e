pub mod Asking
pub mod Stating
