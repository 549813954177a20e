pub mod Counting
pub mod CountedCalls
pub mod CountedRows
pub mod CountedExpressions
pub mod Taking
pub mod Few
pub mod Lowest
