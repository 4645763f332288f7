-- `Written`: what the writes promise. `Put`: the model in the bytes after them. `Edits`: an edit's outcome where nothing refuses it. `Grown`: one component more. `Plain`: what the two edits answer.
pub mod Written
pub mod Put
pub mod Edits
pub mod Grown
pub mod Plain
