-- `Listed`: each parameter that a component lists can be read, and is what the list says.
pub mod Listed
