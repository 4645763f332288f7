pub mod Put
pub mod Plain
