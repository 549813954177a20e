pub mod Prices
pub mod Templates
pub mod Weighs
pub mod Rises
pub mod Expressions
