-- `Setting`: a parameter set in the bytes.
pub mod Setting
