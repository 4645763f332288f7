pub mod Search
pub mod Reading
