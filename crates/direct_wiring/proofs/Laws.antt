-- `Placing`: one place of a list written. `Wiring`: the edits, where nothing refuses them.
pub mod Placing
pub mod Wiring
