-- `Put`: the model in the bytes after a list is written. `Listed`: one component more with its list. `Operation`: what `add_operation` answers.
pub mod Put
pub mod Listed
pub mod Operation
