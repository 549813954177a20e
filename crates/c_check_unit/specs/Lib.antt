pub mod EndIn
pub mod ExternalsIn
pub mod WholeSeen
