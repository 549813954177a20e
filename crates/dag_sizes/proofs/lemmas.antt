pub mod Uses
pub mod Usable
pub mod Sizing
pub mod Parts
pub mod Weighing
pub mod OneUse
pub mod Fewer
pub mod Swap
