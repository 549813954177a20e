pub mod InputMark
