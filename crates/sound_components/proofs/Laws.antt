-- `Entries`: a component as 7 judges it.
pub mod Entries
