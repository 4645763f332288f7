pub mod ModelBytes
pub mod Calls
pub mod Steps
