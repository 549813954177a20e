pub mod DescriptionText
pub mod DeclaredTerminals
pub mod FirstUses
pub mod Uses
pub mod Places
pub mod Printed
