pub mod Refused
pub mod Printed
pub mod CoverLines
pub mod Apart
