pub mod lemmas
pub mod PartForms
