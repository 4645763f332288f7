-- `Checks`: what a check of the bytes shows. `Keys`: a tag's key is its own. `Rows`: what is found in the rows of a table. `Model`: the model that stands in the bytes. `Seven`: 7, and the wires, from the checks.
pub mod Checks
pub mod Keys
pub mod Rows
pub mod Model
pub mod Seven
