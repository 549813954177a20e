pub mod Pointers
pub mod Held
pub mod Laws
pub mod FitLaws
pub mod ShortLaws
pub mod OwnObjects
