-- `Wiring`: each way out of the edit.
pub mod Wiring
