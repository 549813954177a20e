pub mod Given
pub mod NumberStores
pub mod Storages
pub mod Structures
pub mod lemmas
