pub mod Rows
pub mod Took
