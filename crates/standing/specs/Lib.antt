pub mod Names
pub mod Standing
