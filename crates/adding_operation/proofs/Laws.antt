-- `Listed`: a component added with its list. `Operation`: each way out of `add_operation`.
pub mod Listed
pub mod Operation
