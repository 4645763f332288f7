-- `Tagged`: the model of some bytes with another tag in one row. `Renaming`: each way out of the edit.
pub mod Tagged
pub mod Renaming
