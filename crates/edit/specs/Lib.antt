pub mod Meets
pub mod Ends
pub mod Rows
