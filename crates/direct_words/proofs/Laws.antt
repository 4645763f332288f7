-- `Direct`: the contract of an edit on bytes, from an edit made in the bytes themselves.
pub mod Direct
