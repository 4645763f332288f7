pub mod Distance
pub mod Signed
