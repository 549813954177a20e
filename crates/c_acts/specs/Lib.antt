pub mod Changes
pub mod Kinds
pub mod NumberStores
pub mod Shapes
pub mod Spots
pub mod Tests
