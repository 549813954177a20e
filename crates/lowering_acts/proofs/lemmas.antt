pub mod Spotting
