pub mod Growing
pub mod Sound
pub mod OpenPlaces
pub mod OpenDeclares
pub mod Laws
