pub mod Tags
pub mod Comparing
pub mod View
pub mod Fitted
