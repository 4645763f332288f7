-- `Placing`: one place of a list replaced, in the record. `Listed`: the list of a tag, and the step that replaces one place of it.
pub mod Placing
pub mod Listed
