pub mod PartedOnce
