pub mod Fields
pub mod FieldReads
