-- `Renaming`: each way out of the edit.
pub mod Renaming
