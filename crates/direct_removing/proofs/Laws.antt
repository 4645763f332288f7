-- `Removing`: each way out of the edit.
pub mod Removing
