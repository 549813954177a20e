pub mod Turns
pub mod Ran
pub mod Open
pub mod Rooms
pub mod RoomLaws
pub mod SplitLaws
pub mod Fitting
pub mod Laws
