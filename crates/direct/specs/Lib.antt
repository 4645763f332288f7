pub mod Along
pub mod Evaluate
