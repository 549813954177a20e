pub mod Growing
pub mod Lists
pub mod Scalars
pub mod Words
