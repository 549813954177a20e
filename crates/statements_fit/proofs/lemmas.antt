pub mod Filling
pub mod Searching
pub mod Rows
pub mod StatementsFit
pub mod FunctionsFit
pub mod LayoutsFit
