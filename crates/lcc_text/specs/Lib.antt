pub mod Classes
pub mod Lines
pub mod Decimal
pub mod Names
pub mod Stops
pub mod Firsts
