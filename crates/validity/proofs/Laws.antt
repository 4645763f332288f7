-- `Passes`: 7 as the code judges it.
pub mod Passes
