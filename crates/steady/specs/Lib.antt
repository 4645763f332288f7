pub mod Lists
pub mod Steadied
pub mod Steps
