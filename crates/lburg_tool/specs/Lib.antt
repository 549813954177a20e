pub mod TextFaults
pub mod Cover
pub mod Tables
pub mod Printing
