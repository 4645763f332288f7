pub mod Changes
pub mod EditRows
