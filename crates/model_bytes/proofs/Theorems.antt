-- `Decoded`: what decodes is what the bytes hold. `Examples`: the bytes of a new model.
pub mod Decoded
pub mod Examples
