pub mod Counting
pub mod ExpressionMarks
pub mod StatementMarks
pub mod FunctionMarks
pub mod KnownSteps
pub mod KnownSearches
pub mod KnownStatements
