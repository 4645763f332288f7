-- `Told`: no refusal has the number 0. `Stored`: the contract of an edit on bytes.
pub mod Told
pub mod Stored
