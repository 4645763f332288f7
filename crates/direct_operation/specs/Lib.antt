pub mod Put
pub mod Listed
