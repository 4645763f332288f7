-- `Inputs`: the inputs given, and the list made of them.
pub mod Inputs
