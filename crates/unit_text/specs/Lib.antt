pub mod Items
pub mod UnitLines
pub mod Entries
pub mod Callable
pub mod NamedBelow
pub mod UnitOf
