pub mod lemmas
mod Valuing
mod Folding
mod Integers
mod Signs
mod Changing
mod Lower
mod Operands
