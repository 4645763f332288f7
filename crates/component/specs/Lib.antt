pub mod Value
pub mod Kind
pub mod Parameter
